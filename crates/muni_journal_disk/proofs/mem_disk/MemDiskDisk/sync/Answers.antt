use Rattle.std.proofs.Common.{◌≡◌, rules, is_ok}
use Rattle.muni_journal_disk.proofs.Elapsed.{elapses}
use Rattle.muni_journal_disk.proofs.Truth.{truth, truth_either, sure_unsynced, sure_synced}
use Rattle.std.proofs.Common.{refl, sym, ◌∙◌}
use Rattle.muni_journal_disk.proofs.MadeLemmas.{made, failed}
use Rattle.muni_journal_disk.specs.Past.{IsSync}
use Rattle.muni_journal_disk.specs.declared.past.Step.TheVariants.{Synced, Unsynced}
use Rattle.muni_journal_disk.proofs.mem_disk.MemDiskDisk.sync.Goals as goal

pub returns-then-listed-clause-time : goal.returns-then-listed-clause-time
returns-then-listed-clause-time c = elapses c.args.self.now.first.items c.args.self.now.past.items _ _ c.in_ok-push_front.ensures.items

pub returns-clause-time : goal.returns-clause-time
returns-clause-time c = elapses c.args.self.now.first.items c.args.self.now.past.items _ _ c.in_ok-push_front-2.ensures.items

pub invariant_of-self-then-listed-clause-truth : goal.invariant_of-self-then-listed-clause-truth
invariant_of-self-then-listed-clause-truth c = truth c.args.self.now.first.items c.args.self.now.bytes.items c.args.self.now.past.items _ _ c.in_ok-push_front.ensures.items (search rules) c.args.self.now.sure c.args.self.now.truth

pub invariant_of-self-then-listed-clause-sure : goal.invariant_of-self-then-listed-clause-sure
invariant_of-self-then-listed-clause-sure c = sure_unsynced c.args.self.now.first.items c.args.self.now.bytes.items c.args.self.now.past.items _ _ c.in_ok-push_front.ensures.items c.args.self.now.sure

pub invariant_of-self-2 : goal.invariant_of-self-2
invariant_of-self-2 c =
    let self = c.args.self.now in
    let copied : c.in_ok-before.before.items ≡ self.bytes.items = search rules in
    record {
      truth = truth_either (is_ok c.push_front-2.result) self.first.items self.bytes.items self.past.items _ _ c.push_front-2.ensures.items copied self.sure self.truth;
      sure = sure_synced (is_ok c.push_front-2.result) self.first.items self.bytes.items self.past.items _ c.in_ok-before.before c.push_front-2.ensures.items copied self.sure;
    }

pub returns-then-listed-clause-called : goal.returns-then-listed-clause-called
returns-then-listed-clause-called c = failed IsSync c.args.self.now _ _ (search rules) (record {
  listed = sym c.is_listed-listed.ensures ∙ c.if-listed.true;
  call = record { before = c.in_ok-before.before; step = Unsynced };
  before = search rules;
  step = refl;
  past = c.in_ok-push_front.ensures.items;
  faults = c.fail.ensures.counted;
  failing = refl;
})

pub returns-clause-called : goal.returns-clause-called
returns-clause-called c = made IsSync c.args.self.now _ (record {
  listed = sym c.is_listed-listed.ensures ∙ c.if-listed.false;
  call = record { before = c.in_ok-before.before; step = Synced };
  before = search rules;
  step = refl;
  past = c.in_ok-push_front-2.ensures.items;
  faults = refl;
  failing = refl;
})
