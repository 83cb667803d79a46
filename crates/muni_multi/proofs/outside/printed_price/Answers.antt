use Rattle.std.proofs.Common.{◌≡◌, ◌∙◌, subst, arith, ℤ, w32, w64, to_z, of_z}
use Rattle.std.proofs.lemmas.Int.{ints}
use Rattle.muni_rule.specs.Verdicts.{at_least_verdict, dirty_thousandths}
use Rattle.muni_rule.specs.WorthEnds.{ends_of}
use Rattle.muni_multi.specs.Prices.{IsSeriesPriceOutcome, IsDoubtfulAnswer}
use Rattle.muni_multi.proofs.outside.printed_price.Given as given
use Rattle.muni_multi.proofs.outside.printed_price.Goals.{After-printed_price_at}
use Rattle.muni_multi.proofs.outside.printed_price.Goals as goal

same : (g : given.Over) (c : After-printed_price_at g) → c.at.result.y ≡ c.args.y
same g c =
    let cast : to_z w32 (of_z w32 (to_z w64 (of_z w64 c.units.result))) ≡ c.args.y = omega (arith, ints, c.units.ensures.value, c.requires.y) in
    c.at.ensures.y ∙ cast

pub returns-clause-undecided : goal.returns-clause-undecided
returns-clause-undecided g c =
    subst (λ (y : ℤ). IsDoubtfulAnswer c.args.flows.now y c.printed_price_at.result) (same g (goal.at.returns-clause-undecided g c).After-printed_price_at) c.printed_price_at.ensures.undecided

pub returns-clause-outcome : goal.returns-clause-outcome
returns-clause-outcome g c =
    let ends = g.E.Encloser.ends c.args.encloser.now c.args.flows.now in
    subst (λ (y : ℤ). IsSeriesPriceOutcome (λ t. at_least_verdict (ends_of c.args.flows.now y (ends y)) (dirty_thousandths c.args.flows.now.accrued t)) c.printed_price_at.result)
    (same g (goal.at.returns-clause-outcome g c).After-printed_price_at) c.printed_price_at.ensures.outcome
