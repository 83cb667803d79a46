use Rattle.std.proofs.Common.{rules, ◌≡◌, ◌∙◌, subst, arith, ℤ, w32, w64, to_z, of_z}
use Rattle.std.proofs.lemmas.Int.{ints}
use Rattle.muni_sched.specs.PriceOutcome.{IsManyOutcome}
use Rattle.muni_sched.proofs.PriceSoundLemmas.{printable}
use Rattle.muni_sched.proofs.prices.price_at.Goals as goal

pub returns-in-Many-clause-outcome : goal.returns-in-Many-clause-outcome
returns-in-Many-clause-outcome g c =
    let series = c.in-Many.flows in
    let ends = g.E.Encloser.ends c.args.encloser.now in
    let cast : to_z w32 (of_z w32 (to_z w64 (of_z w64 c.units.result))) ≡ c.args.y = omega (arith, ints, c.units.ensures.value, c.units.ensures.range) in
    let same : c.kept_or_at-at.result.y ≡ c.args.y = c.kept_or_at-at.ensures.y ∙ cast in
    let outcome = subst (λ (y : ℤ). IsManyOutcome ends y series c.printed_price_at.result) same c.printed_price_at.ensures.outcome in
    search (rules, outcome)

pub returns-in-Many-clause-range : goal.returns-in-Many-clause-range
returns-in-Many-clause-range g c = printable c.printed_price_at.result c.printed_price_at.ensures.small
