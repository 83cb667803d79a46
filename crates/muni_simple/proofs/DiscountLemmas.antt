-- The return on the price at a discount rate lies in the printed range.
use Rattle.std.proofs.Common.{◌≡◌, ◌≢◌, ℕ, ◌+◌, ◌*◌, ◌≤◌, ℤ, pos, negsuc, ◌+ℤ◌, ◌≤ℤ◌, arith}
use Rattle.std.proofs.Math.Nat.{mul-le-mul, mul-le-mul_right}
use Rattle.std.proofs.lemmas.Int.{ints}
use Rattle.muni_rule.specs.DayCount.{year_of}
use Rattle.muni_rule.specs.SinglePayment.{AtLeast, More}
use Rattle.muni_rule.specs.declared.basis.Basis.{Basis}
use Rattle.muni_rule.specs.declared.basis.Basis.TheVariants.{Thirty360, Actual365}
use Rattle.muni_rule.specs.Discount.{discount_price, discounted}
use Rattle.muni_rule.specs.Ranges.{IsDiscountRate, at_redemption_prints}
use Rattle.muni_simple.specs.declared.yields.SimpleYield.{SimpleYield}
use Rattle.muni_simple.specs.declared.yields.SimpleYield.TheVariants.{Print, Below, Above, NoTime}
use Rattle.muni_simple.specs.Yields.{IsYieldAnswer}
use Rattle.muni_simple.proofs.ShownLemmas.{worth_below}

-- at -45 percent the price is more than one of at most 100 dollars
more_at_least : (basis : Basis) (price days : ℕ) → 1 ≤ days → 1 ≤ price → price ≤ year_of basis * 100_000_000_000 → More (discounted basis (pos days)) (negsuc 450_004) (pos price)
more_at_least Thirty360 price days some above most =
    let worth = worth_below price 360_000_000 days 450_005 in
    let loss : 1 * 1 ≤ price * days = mul-le-mul above some in
    let sum : pos price +ℤ pos 0 ≡ pos price = omega (arith, ints) in
    rw (sum, worth) (omega (arith, ints))
more_at_least Actual365 price days some above most =
    let worth = worth_below price 365_000_000 days 450_005 in
    let loss : 1 * 1 ≤ price * days = mul-le-mul above some in
    let sum : pos price +ℤ pos 0 ≡ pos price = omega (arith, ints) in
    rw (sum, worth) (omega (arith, ints))

-- and at 999.9995 it is less than one of at least 40 dollars
not_at_most : (basis : Basis) (price rate days : ℕ) → 1 ≤ days → rate ≤ 300_000 → 14_400_000_000_000 ≤ price → price + 100_000 * (rate * days) ≡ year_of basis * 100_000_000_000 → AtLeast (discounted basis (pos days)) (pos 9_999_995) (pos price) → ⊥
not_at_most Thirty360 price rate days some most least price_is at =
    let earned : 14_400_000_000_000 * days ≤ price * days = mul-le-mul_right days least in
    let discount : rate * days ≤ 300_000 * days = mul-le-mul_right days most in
    omega (arith, ints)
not_at_most Actual365 price rate days some most least price_is at =
    let earned : 14_400_000_000_000 * days ≤ price * days = mul-le-mul_right days least in
    let discount : rate * days ≤ 300_000 * days = mul-le-mul_right days most in
    omega (arith, ints)

-- the price at a rate is par less the discount
price-parts : (basis : Basis) (rate days price : ℕ) → pos price ≡ discount_price basis (pos rate) (pos days) → price + 100_000 * (rate * days) ≡ year_of basis * 100_000_000_000
price-parts Thirty360 rate days price is = omega (arith, ints, is)
price-parts Actual365 rate days price is = omega (arith, ints, is)

pub return_inside : (basis : Basis) (rate days : ℤ) (price : ℕ) (answer : SimpleYield) → IsDiscountRate rate → pos 0 ≤ℤ days → 14_400_000_000_000 ≤ price → pos price ≡ discount_price basis rate days → IsYieldAnswer at_redemption_prints.least (discounted basis days) (pos price) answer → (answer ≢ Below) × (answer ≢ Above)
return_inside basis (negsuc r) days price answer given from least is right = absurd (omega (arith, ints))
return_inside basis (pos rate) (negsuc d) price answer given from least is right = absurd (omega (arith, ints))
return_inside basis (pos rate) (pos days) price NoTime given from least is right = (λ e. cc, λ e. cc)
return_inside basis (pos rate) (pos days) price (Print t) given from least is right = (λ e. cc, λ e. cc)
return_inside basis (pos rate) (pos days) price Below given from least is right =
    (λ e. right.1.least_not_reached (more_at_least basis price days (omega (arith, ints)) (omega arith) (let parts = price-parts basis rate days price is in omega (arith, parts))), λ e. cc)
return_inside basis (pos rate) (pos days) price Above given from least is right =
    (λ e. cc, λ e. not_at_most basis price rate days (omega (arith, ints)) (omega (arith, ints)) least (price-parts basis rate days price is) right.1)
