use Rattle.std.proofs.Common.{◌≡◌, [], sym, subst, ◌∙◌}
use Rattle.muni_readings.specs.OtherTerms.{uncalled}
use Rattle.muni_readings.proofs.OtherTermsLemmas.{no-items, uncalled-same, over-equal}
use Rattle.muni_readings.proofs.other_terms.by_maturity.Goals as goal

pub returns-then-is_empty : goal.returns-then-is_empty
returns-then-is_empty g c = λ right.
    let row = c.args.answered.now.issue.now in
    let none = no-items c.row-row.result.now.calls.items (sym c.is_empty.ensures ∙ c.if-is_empty.true) in
    over-equal (g.E.Encloser.ends c.args.calculator.now.encloser.now) row (uncalled row) c.args.answered.now.asked.now c.args.answered.now.figures.now c.row-row.ensures.passed
    (uncalled-same row (subst (λ it. it.calls.items ≡ []) c.row-row.ensures.value none)) right
