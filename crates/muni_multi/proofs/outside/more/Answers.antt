use Rattle.std.proofs.Common.{◌≡◌, ◌+◌, ◌*◌, rules}
use Rattle.muni_rule.specs.Verdicts.{more_verdict}
use Rattle.muni_rule.specs.WorthEnds.{ends_of}
use Rattle.muni_rule.proofs.EnclosedLemmas.{IsEnclosed, enclosed, more-true, more-false, more-doubtful}
use Rattle.muni_multi.proofs.outside.more.Given as given
use Rattle.muni_multi.proofs.outside.more.Goals as goal

law : (g : given.Over) (c : goal.After-more_at g) → IsEnclosed c.args.flows.now c.args.y (g.E.Encloser.ends c.args.encloser.now c.args.flows.now c.args.y)
law g c =
    let series = c.a.ensures.bounds in
    enclosed c.args.flows.now c.args.y (g.E.Encloser.ends c.args.encloser.now c.args.flows.now c.args.y) series c.requires.y
    (g.met.E.Encloser.encloses c.args.encloser.now c.args.flows.now c.args.y series c.requires.many c.requires.y)
    (g.met.E.Encloser.narrow c.args.encloser.now c.args.flows.now c.args.y series c.requires.many c.requires.y)

read : (g : given.Over) (c : goal.After-more_at g) → c.more_at.result.verdict ≡ more_verdict (ends_of c.args.flows.now c.args.y (g.E.Encloser.ends c.args.encloser.now c.args.flows.now c.args.y)) (360_000 * c.args.price + c.args.flows.now.accrued)
read g c = search rules

pub returns-clause-yes : goal.returns-clause-yes
returns-clause-yes g c = more-true c.args.flows.now c.args.y _ (360_000 * c.args.price) c.more_at.result.verdict (law g c) (read g c)

pub returns-clause-no : goal.returns-clause-no
returns-clause-no g c = more-false c.args.flows.now c.args.y _ (360_000 * c.args.price) c.more_at.result.verdict (law g c) (read g c)

pub returns-clause-unsure : goal.returns-clause-unsure
returns-clause-unsure g c = more-doubtful c.args.flows.now c.args.y _ (360_000 * c.args.price) c.more_at.result.verdict (law g c) (read g c)
