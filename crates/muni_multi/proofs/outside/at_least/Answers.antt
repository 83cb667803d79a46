use Rattle.std.proofs.Common.{◌≡◌, ◌+◌, ◌*◌, rules}
use Rattle.muni_rule.specs.Verdicts.{at_least_verdict}
use Rattle.muni_rule.specs.WorthEnds.{ends_of}
use Rattle.muni_rule.proofs.EnclosedLemmas.{IsEnclosed, enclosed, at_least-true, at_least-false, at_least-doubtful}
use Rattle.muni_multi.proofs.outside.at_least.Given as given
use Rattle.muni_multi.proofs.outside.at_least.Goals as goal

law : (g : given.Over) (c : goal.After-at_least_at g) → IsEnclosed c.args.flows.now c.args.y (g.E.Encloser.ends c.args.encloser.now c.args.flows.now c.args.y)
law g c =
    let series = c.a.ensures.bounds in
    enclosed c.args.flows.now c.args.y (g.E.Encloser.ends c.args.encloser.now c.args.flows.now c.args.y) series c.requires.y
    (g.met.E.Encloser.encloses c.args.encloser.now c.args.flows.now c.args.y series c.requires.many c.requires.y)
    (g.met.E.Encloser.narrow c.args.encloser.now c.args.flows.now c.args.y series c.requires.many c.requires.y)

read : (g : given.Over) (c : goal.After-at_least_at g) → c.at_least_at.result.verdict ≡ at_least_verdict (ends_of c.args.flows.now c.args.y (g.E.Encloser.ends c.args.encloser.now c.args.flows.now c.args.y)) (360_000 * c.args.price + c.args.flows.now.accrued)
read g c = search rules

pub returns-clause-yes : goal.returns-clause-yes
returns-clause-yes g c = at_least-true c.args.flows.now c.args.y _ (360_000 * c.args.price) c.at_least_at.result.verdict (law g c) (read g c)

pub returns-clause-no : goal.returns-clause-no
returns-clause-no g c = at_least-false c.args.flows.now c.args.y _ (360_000 * c.args.price) c.at_least_at.result.verdict (law g c) (read g c)

pub returns-clause-unsure : goal.returns-clause-unsure
returns-clause-unsure g c = at_least-doubtful c.args.flows.now c.args.y _ (360_000 * c.args.price) c.at_least_at.result.verdict (law g c) (read g c)
