use Rattle.std.proofs.Common.{◌≡◌, arith}
use Rattle.muni_rule.specs.WorthEnds.{ends_of}
use Rattle.muni_rule.proofs.EnclosedLemmas.{IsEnclosed, enclosed}
use Rattle.muni_multi.specs.Bounds.{AreBounded}
use Rattle.muni_multi.proofs.BoundLemmas.{are-bounded, low-fits, high-small, quotients-ordered}
use Rattle.muni_multi.proofs.PriceLemmas.{ends-outcome, outcome-exact, outcome-doubtful}
use Rattle.muni_multi.proofs.price.printed_price_at.Given as given
use Rattle.muni_multi.proofs.price.printed_price_at.Goals.{After-ends-worth}
use Rattle.muni_multi.proofs.price.printed_price_at.Goals as goal

law : (g : given.Over) (c : After-ends-worth g) → IsEnclosed c.args.flows.now c.args.discount.now.y (g.E.Encloser.ends c.args.encloser.now c.args.flows.now c.args.discount.now.y)
law g c =
    let series = c.accrued-accrued.ensures.bounds in
    enclosed c.args.flows.now c.args.discount.now.y (g.E.Encloser.ends c.args.encloser.now c.args.flows.now c.args.discount.now.y) series c.ends-worth.ensures.y
    (g.met.E.Encloser.encloses c.args.encloser.now c.args.flows.now c.args.discount.now.y series c.requires.many c.ends-worth.ensures.y)
    (g.met.E.Encloser.narrow c.args.encloser.now c.args.flows.now c.args.discount.now.y series c.requires.many c.ends-worth.ensures.y)

value : (g : given.Over) (c : After-ends-worth g) → c.ends-worth.result ≡ ends_of c.args.flows.now c.args.discount.now.y (g.E.Encloser.ends c.args.encloser.now c.args.flows.now c.args.discount.now.y)
value g c = c.ends-worth.ensures.value

bounded : (g : given.Over) (c : After-ends-worth g) → AreBounded c.ends-worth.result
bounded g c = are-bounded c.args.flows.now c.args.discount.now.y (g.E.Encloser.ends c.args.encloser.now c.args.flows.now c.args.discount.now.y) c.ends-worth.result (value g c) c.ends-worth.ensures.y (law g c)

pub whole_low-requires : goal.whole_low-requires
whole_low-requires g c =
    let bounds = bounded g (goal.at.whole_low-requires g c).After-ends-worth in
    record { some = bounds.some; fits = low-fits c.ends-worth.result bounds }

pub whole_high-requires : goal.whole_high-requires
whole_high-requires g c =
    let bounds = bounded g (goal.at.whole_high-requires g c).After-ends-worth in
    let small = high-small c.ends-worth.result bounds in
    record { some = bounds.some; fits = omega (arith, small) }

pub price_between-requires : goal.price_between-requires
price_between-requires g c =
    let bounds = bounded g (goal.at.price_between-requires g c).After-ends-worth in
    let order = quotients-ordered c.ends-worth.result bounds in
    let small = high-small c.ends-worth.result bounds in
    record {
      ordered = omega (arith, order, c.whole_low.ensures, c.whole_high.ensures);
      small = omega (arith, small, c.whole_high.ensures);
    }

pub returns-clause-outcome : goal.returns-clause-outcome
returns-clause-outcome g c =
    let place = (goal.at.returns-clause-outcome g c).After-ends-worth in
    ends-outcome c.args.flows.now c.args.discount.now.y (g.E.Encloser.ends c.args.encloser.now c.args.flows.now c.args.discount.now.y) c.ends-worth.result c.whole_low.result c.whole_high.result c.accrued-accrued.result c.price_between.result
    (value g place) (bounded g place).some c.whole_low.ensures c.whole_high.ensures c.accrued-accrued.ensures.value c.price_between.ensures.outcome

pub returns-clause-exact : goal.returns-clause-exact
returns-clause-exact g c =
    outcome-exact c.args.flows.now c.args.discount.now.y _ c.price_between.result (law g (goal.at.returns-clause-exact g c).After-ends-worth) (returns-clause-outcome g c)

pub returns-clause-undecided : goal.returns-clause-undecided
returns-clause-undecided g c =
    outcome-doubtful c.args.flows.now c.args.discount.now.y _ c.price_between.result (law g (goal.at.returns-clause-undecided g c).After-ends-worth) (returns-clause-outcome g c)
