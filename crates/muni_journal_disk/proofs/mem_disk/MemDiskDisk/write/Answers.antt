use Rattle.muni_journal_disk.proofs.Truth.{truth, sure_write, same_bytes}
use Rattle.muni_journal_disk.specs.Bytes.{IsSameOutside}
use Rattle.muni_journal_disk.proofs.Elapsed.{elapses}
use Rattle.std.proofs.Common.{ℕ, List, refl, subst, rules, length}
use Rattle.muni_journal_disk.proofs.Patches.{torn}
use Rattle.std.proofs.Common.{refl, sym, ◌∙◌}
use Rattle.muni_journal_disk.proofs.MadeLemmas.{made, failed}
use Rattle.muni_journal_disk.specs.Past.{IsWrite}
use Rattle.muni_journal_disk.proofs.mem_disk.MemDiskDisk.write.Goals as goal

pub returns-then-listed-clause-time : goal.returns-then-listed-clause-time
returns-then-listed-clause-time c = elapses c.args.self.now.first.items c.args.self.now.past.items _ _ c.in_ok-push_front.ensures.items

pub returns-then-listed-clause-images : goal.returns-then-listed-clause-images
returns-then-listed-clause-images c = torn c.args.self.now.first.items c.args.self.now.past.items _ c.in_ok-before.before _ c.args.place _ refl (search rules) c.in_ok-push_front.ensures.items

pub returns-clause-time : goal.returns-clause-time
returns-clause-time c = elapses c.args.self.now.first.items c.args.self.now.past.items _ _ c.in_ok-push_front.ensures.items

pub returns-clause-images : goal.returns-clause-images
returns-clause-images c = torn c.args.self.now.first.items c.args.self.now.past.items _ c.in_ok-before.before _ c.args.place _ refl (search rules) c.in_ok-push_front.ensures.items

pub invariant_of-self-then-listed-clause-truth : goal.invariant_of-self-then-listed-clause-truth
invariant_of-self-then-listed-clause-truth c = truth c.args.self.now.first.items c.args.self.now.bytes.items c.args.self.now.past.items _ _ c.in_ok-push_front.ensures.items (search rules) c.args.self.now.sure c.args.self.now.truth

pub invariant_of-self-2-clause-truth : goal.invariant_of-self-2-clause-truth
invariant_of-self-2-clause-truth c = truth c.args.self.now.first.items c.args.self.now.bytes.items c.args.self.now.past.items _ _ c.in_ok-push_front.ensures.items (search rules) c.args.self.now.sure c.args.self.now.truth

pub invariant_of-self-then-listed-clause-sure : goal.invariant_of-self-then-listed-clause-sure
invariant_of-self-then-listed-clause-sure c =
    let bytes = c.args.self.now.bytes.items in
    sure_write c.args.self.now.first.items bytes bytes c.args.self.now.past.items _ c.in_ok-before.before _ c.args.place _ refl refl c.in_ok-push_front.ensures.items (same_bytes _ _ bytes) c.args.self.now.sure

pub invariant_of-self-2-clause-sure : goal.invariant_of-self-2-clause-sure
invariant_of-self-2-clause-sure c =
    let keeps = c.in_ok-next.ensures.outside in
    sure_write c.args.self.now.first.items c.args.self.now.bytes.items c.in_ok-next.next.items c.args.self.now.past.items _ c.in_ok-before.before _ c.args.place (length c.args.piece.now) refl (search rules) c.in_ok-push_front.ensures.items (subst (λ (b : List ℕ). IsSameOutside c.args.place (length c.args.piece.now) b c.in_ok-next.next.items) c.deref-2.ensures.value keeps) c.args.self.now.sure

pub returns-then-listed-clause-called : goal.returns-then-listed-clause-called
returns-then-listed-clause-called c = failed (λ _. IsWrite c.args.place c.args.piece.now) c.args.self.now _ _ (search rules) (record {
  listed = sym c.is_listed-listed.ensures ∙ c.if-listed.true;
  call = _;
  before = search rules;
  step = record { piece = _; is = refl; at = refl; holds = search rules };
  past = c.in_ok-push_front.ensures.items;
  faults = c.fail.ensures.counted;
  failing = refl;
})

pub returns-clause-called : goal.returns-clause-called
returns-clause-called c = made (λ _. IsWrite c.args.place c.args.piece.now) c.args.self.now _ (record {
  listed = sym c.is_listed-listed.ensures ∙ c.if-listed.false;
  call = _;
  before = search rules;
  step = record { piece = _; is = refl; at = refl; holds = search rules };
  past = c.in_ok-push_front.ensures.items;
  faults = refl;
  failing = refl;
})
