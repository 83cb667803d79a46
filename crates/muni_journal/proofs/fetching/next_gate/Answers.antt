use Rattle.std.proofs.Common.{◌≡◌, ◌+◌, Bool, true, ap, ℕ, List, Option, Some, None, Ok, sym, ◌∙◌, subst, arith}
use Rattle.std.proofs.lemmas.Bool.Decides.{nat_tests}
use Rattle.muni_journal_disk.specs.Disk.{ReadsAs}
use Rattle.muni_journal.specs.Journal.{Place, is_length}
use Rattle.muni_journal.proofs.SlotLemmas.{slot_is}
use Rattle.muni_journal.proofs.fetching.next_gate.Goals as goal

pub returns-then-not-is_put-clause-none : goal.returns-then-not-is_put-clause-none
returns-then-not-is_put-clause-none g c _ f reads =
    let right : is_length c.in-Ok.count ≡ true = grind (arith, nat_tests, c.if-count-lt1.false, c.if-count-gt1024.false) in
    let there = subst (λ (o : Option (List ℕ)). ReadsAs o f) (sym c.number_at.ensures.reads.keeps.bytes) reads in
    slot_is f c.args.gate c.in-Ok.count c.args.kept.now None (c.in-Ok.ensures.number f reads) right (c.put_at.ensures.refused (c.in-Ok-put_at.is ∙ ap (λ (b : Bool). Ok b) c.if-not-is_put.true) f there)

pub returns-clause-next : goal.returns-clause-next
returns-clause-next g c f reads =
    let right : is_length c.in-Ok.count ≡ true = grind (arith, nat_tests, c.if-count-lt1.false, c.if-count-gt1024.false) in
    let there = subst (λ (o : Option (List ℕ)). ReadsAs o f) (sym c.number_at.ensures.reads.keeps.bytes) reads in
    slot_is f c.args.gate c.in-Ok.count c.args.kept.now (Some c.put_at.new.kept) (c.in-Ok.ensures.number f reads) right (c.put_at.ensures.put (c.in-Ok-put_at.is ∙ ap (λ (b : Bool). Ok b) c.if-not-is_put.false) f there)
    ∙ ap (λ (n : ℕ). let p : Place = record { gate = c.args.gate + 5 + n; tables = c.put_at.new.kept } in Some p) (sym c.from.ensures)
