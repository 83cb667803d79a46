use Rattle.muni_journal_disk.proofs.Truth.{truth, sure_read}
use Rattle.std.proofs.Common.{rules}
use Rattle.muni_journal_disk.proofs.Elapsed.{elapses}
use Rattle.std.proofs.Common.{refl, sym, ◌∙◌}
use Rattle.muni_journal_disk.proofs.MadeLemmas.{made, failed}
use Rattle.muni_journal_disk.specs.Past.{IsRead}
use Rattle.muni_journal_disk.specs.declared.past.Step.TheVariants.{Read}
use Rattle.muni_journal_disk.proofs.mem_disk.MemDiskDisk.read.Goals as goal

pub returns-then-listed-clause-time : goal.returns-then-listed-clause-time
returns-then-listed-clause-time c = elapses c.args.self.now.first.items c.args.self.now.past.items _ _ c.in_ok-push_front.ensures.items

pub returns-clause-time : goal.returns-clause-time
returns-clause-time c = elapses c.args.self.now.first.items c.args.self.now.past.items _ _ c.in_ok-push_front.ensures.items

pub invariant_of-self-then-listed-clause-truth : goal.invariant_of-self-then-listed-clause-truth
invariant_of-self-then-listed-clause-truth c = truth c.args.self.now.first.items c.args.self.now.bytes.items c.args.self.now.past.items _ _ c.in_ok-push_front.ensures.items (search rules) c.args.self.now.sure c.args.self.now.truth

pub invariant_of-self-else-listed-clause-truth : goal.invariant_of-self-else-listed-clause-truth
invariant_of-self-else-listed-clause-truth c = truth c.args.self.now.first.items c.args.self.now.bytes.items c.args.self.now.past.items _ _ c.in_ok-push_front.ensures.items (search rules) c.args.self.now.sure c.args.self.now.truth

pub invariant_of-self-then-listed-clause-sure : goal.invariant_of-self-then-listed-clause-sure
invariant_of-self-then-listed-clause-sure c = sure_read c.args.self.now.first.items c.args.self.now.bytes.items c.args.self.now.past.items _ _ c.in_ok-push_front.ensures.items c.args.self.now.sure

pub invariant_of-self-else-listed-clause-sure : goal.invariant_of-self-else-listed-clause-sure
invariant_of-self-else-listed-clause-sure c = sure_read c.args.self.now.first.items c.args.self.now.bytes.items c.args.self.now.past.items _ _ c.in_ok-push_front.ensures.items c.args.self.now.sure

pub returns-then-listed-clause-called : goal.returns-then-listed-clause-called
returns-then-listed-clause-called c = failed (λ _. IsRead) c.args.self.now _ _ (search rules) (record {
  listed = sym c.is_listed-listed.ensures ∙ c.if-listed.true;
  call = record { before = c.in_ok-before.before; step = Read };
  before = search rules;
  step = refl;
  past = c.in_ok-push_front.ensures.items;
  faults = c.fail.ensures.counted;
  failing = refl;
})

pub returns-clause-called : goal.returns-clause-called
returns-clause-called c = made (λ _. IsRead) c.args.self.now _ (record {
  listed = sym c.is_listed-listed.ensures ∙ c.if-listed.false;
  call = record { before = c.in_ok-before.before; step = Read };
  before = search rules;
  step = refl;
  past = c.in_ok-push_front.ensures.items;
  faults = refl;
  failing = refl;
})
