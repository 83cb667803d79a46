use Rattle.std.proofs.Common.{◌≡◌, ◌∙◌, ap, sym, subst}
use Rattle.muni_yield.specs.Bracket.{YieldBracket, question, halved}
use Rattle.muni_yield.specs.Places.{place_verdict}
use Rattle.muni_yield.proofs.guided.GuidedSearch.halve.Goals as goal

pub returns-clause-halved : goal.returns-clause-halved
returns-clause-halved g c =
    let verdicts = place_verdict (g.E.Encloser.ends c.args.encloser.now) in
    let same = c.answer-verdict.ensures.bracket in
    c.halve_known.ensures.halved verdicts (subst (λ (b : YieldBracket). verdicts b.series b.price (question b) ≡ c.answer-verdict.result) (sym same) (sym c.answer-verdict.ensures.verdict))
    ∙ ap (halved verdicts) same

pub returns-clause-known : goal.returns-clause-known
returns-clause-known g c =
    let verdicts = place_verdict (g.E.Encloser.ends c.args.encloser.now) in
    rw (c.halve_known.ensures.series, c.halve_known.ensures.price) c.answer-verdict.ensures.known
