use Rattle.std.proofs.Common.{◌≡◌, ◌+◌, drop, refl, sym, ◌∙◌, ap, Some, None}
use Rattle.std.proofs.lemmas.List.{at_drop_more, drop_all}
use Rattle.muni_sched.specs.Range.{side_for, first_of, side_of_first}
use Rattle.muni_sched.proofs.RangeLemmas.{all-given}
use Rattle.muni_sched.proofs.range.out_of_range.Goals as goal

pub returns-in-Some-clause-first : goal.returns-in-Some-clause-first
returns-in-Some-clause-first c =
    let candidate = c.candidate-item.result in
    let rest = drop (c.loop-candidate.candidate-index + 1) c.args.list.now in
    let next = at_drop_more (side_of_first c.args.y) c.args.list.now c.loop-candidate.candidate-index candidate c.loop-candidate-test.true in
    let here : side_for c.args.y candidate ≡ Some c.in-Some.side = cc in
    let first = ap (λ side. first_of side (side_of_first c.args.y rest)) here in
    cc

pub loop-candidate-preserved : goal.loop-candidate-preserved
loop-candidate-preserved c =
    let candidate = c.candidate-item.result in
    let rest = drop (c.loop-candidate.candidate-index + 1) c.args.list.now in
    let next = at_drop_more (side_of_first c.args.y) c.args.list.now c.loop-candidate.candidate-index candidate c.loop-candidate-test.true in
    let none : side_for c.args.y candidate ≡ None = cc in
    let later = ap (λ side. first_of side (side_of_first c.args.y rest)) none in
    cc

pub returns-clause-inside : goal.returns-clause-inside
returns-clause-inside c =
    let list = c.args.list.now in
    let none : side_of_first c.args.y list ≡ None = sym c.loop-candidate.invariant ∙ ap (side_of_first c.args.y) (drop_all c.loop-candidate.candidate-index list c.loop-candidate-test.false) in
    (λ same. all-given c.args.y list none, λ all. refl)
