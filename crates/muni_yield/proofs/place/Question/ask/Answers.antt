use Rattle.std.proofs.Common.{rules, ◌≡◌, ◌+◌, ◌*◌, ◌<◌, ◌≤◌, subst}
use Rattle.muni_rule.specs.Verdicts.{at_least_verdict, more_verdict}
use Rattle.muni_rule.specs.WorthEnds.{ends_of}
use Rattle.muni_yield.proofs.PlaceLemmas.{asked-above, asked-below}
use Rattle.muni_yield.proofs.place.Question.ask.Goals as goal

pub returns-then-self-clause-verdict : goal.returns-then-self-clause-verdict
returns-then-self-clause-verdict g c =
    let ends = g.E.Encloser.ends c.args.encloser.now in
    let series = c.args.flows.now in
    let y = c.boundary.result in
    let said : c.at_least_at.result.verdict ≡ at_least_verdict (ends_of series y (ends series y)) (360000 * c.args.price + series.accrued) = search rules in
    asked-above ends series c.args.price c.args.self y c.at_least_at.result.verdict (subst (λ place. 5001 < place) c.self.view_is c.if-self.true) c.boundary.ensures.value said

pub returns-else-self-clause-verdict : goal.returns-else-self-clause-verdict
returns-else-self-clause-verdict g c =
    let ends = g.E.Encloser.ends c.args.encloser.now in
    let series = c.args.flows.now in
    let y = c.boundary.result in
    let said : c.more_at.result.verdict ≡ more_verdict (ends_of series y (ends series y)) (360000 * c.args.price + series.accrued) = search rules in
    asked-below ends series c.args.price c.args.self y c.more_at.result.verdict (subst (λ place. place ≤ 5001) c.self.view_is c.if-self.false) c.boundary.ensures.value said
