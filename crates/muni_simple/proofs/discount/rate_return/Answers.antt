use Rattle.std.proofs.Common.{◌≡◌, ℤ, pos, unsigned_abs, arith, subst, to_z, of_z, w32}
use Rattle.std.proofs.lemmas.Int.{ints}
use Rattle.muni_rule.specs.Discount.{discounted}
use Rattle.muni_rule.specs.Ranges.{at_redemption_prints}
use Rattle.muni_simple.specs.Yields.{IsYieldAnswer}
use Rattle.muni_simple.proofs.DiscountLemmas.{return_inside}
use Rattle.muni_simple.proofs.discount.rate_return.Goals as goal

pub returns-clause-inside : goal.returns-clause-inside
returns-clause-inside c =
    let cast : to_z w32 (of_z w32 c.args.days) ≡ c.args.days = omega (arith, ints) in
    let left : pos (unsigned_abs (to_z w32 (of_z w32 c.args.days))) ≡ c.args.days = omega (arith, ints) in
    let Answers : ℤ → Type 0 = λ days. IsYieldAnswer at_redemption_prints.least (discounted c.args.basis days) (pos c.price_at-amount.result) c.yield_at.result in
    return_inside c.args.basis c.args.rate c.args.days c.price_at-amount.result c.yield_at.result c.requires.rate c.requires.days.0
    c.price_at-amount.ensures.range.0 (rw cast at c.price_at-amount.ensures.value) (subst Answers left (rw c.par.ensures.value at c.yield_at.ensures.exact))
