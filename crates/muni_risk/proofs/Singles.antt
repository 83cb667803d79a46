-- The figures of one payment.
use Rattle.std.proofs.Common.{◌≡◌, ℕ, ◌+◌, ◌*◌, ◌^◌, ◌<◌, ◌≤◌, subst, arith, lit≤}
use Rattle.std.proofs.Math.Nat.{mul-le-mul}
use Rattle.muni_rule.proofs.PowerLemmas.{pow-two}
use Rattle.std.specs.Prelude.{ℤ, unsigned_abs}
use Rattle.muni_rule.specs.SinglePayment as rule
use Rattle.muni_rule.specs.SinglePayment.{SinglePayment}
use Rattle.muni_simple.specs.declared.single.Shape1.{Shape1}
use Rattle.muni_simple.specs.declared.single.Shape1.TheVariants.{OnePeriod, AtRedemption}
use Rattle.muni_simple.specs.Single.{most_left}
use Rattle.muni_rule.specs.Sensitivities.{IsPrintedFor, IsPrintedThousandths, single_duration, single_convexity, single_dv01}

-- the nearest whole number is printed
pub printed-nearest : (top bottom f : ℕ) → 0 < bottom → 2 * f * bottom ≤ 2 * top + bottom → 2 * top ≤ 2 * f * bottom + bottom → IsPrintedFor (record { top = top; bottom = bottom }) f
printed-nearest top bottom f some above below = record {
  some = some;
  not_far_above = omega (arith, above);
  not_far_below = omega (arith, below);
}

-- how large the numbers are
pub record AreInRange (left due growth : ℕ) : Type 0 where
  pub left_few : left ≤ 720
  pub due_few : due ≤ 10 ^ 15
  pub growth_least : 36000000 ≤ growth
  pub growth_most : growth ≤ 7600000000

square-least : (growth : ℕ) → 36000000 ≤ growth → 36000000 * 36000000 ≤ growth * growth
square-least growth least = mul-le-mul least least

square-most : (growth : ℕ) → growth ≤ 7600000000 → growth * growth ≤ 7600000000 * 7600000000
square-most growth most = mul-le-mul most most

pub growth-some : (left due growth : ℕ) → AreInRange left due growth → 0 < growth * growth
growth-some left due growth are = let least = square-least growth are.growth_least in omega (arith, least)

time-most : (left : ℕ) → left ≤ 720 → left * 1000000 * (left * 1000000) ≤ 720000000 * 720000000
time-most left few = let less : left * 1000000 ≤ 720000000 = omega arith in mul-le-mul less less

pub convexity-fits : (left due growth : ℕ) → AreInRange left due growth → 2 * (2000 * (left * 1000000 * (left * 1000000))) + growth * growth < 2 ^ 127
convexity-fits left due growth are =
    let square = square-most growth are.growth_most in
    let time = time-most left are.left_few in
    omega (arith, square, time)

pub convexity-small : (left due growth : ℕ) → AreInRange left due growth → 2000 * (left * 1000000 * (left * 1000000)) < 2 ^ 62 * (growth * growth)
convexity-small left due growth are =
    let square = square-least growth are.growth_least in
    let time = time-most left are.left_few in
    omega (arith, square, time)

due-most : (left due : ℕ) → left ≤ 720 → due ≤ 10 ^ 15 → 100000 * left * due ≤ 72000000 * 10 ^ 15
due-most left due few most = let less : 100000 * left ≤ 72000000 = omega arith in mul-le-mul less most

pub dv01-fits : (left due growth : ℕ) → AreInRange left due growth → 2 * (100000 * left * due) + growth * growth < 2 ^ 127
dv01-fits left due growth are =
    let square = square-most growth are.growth_most in
    let product = due-most left due are.left_few are.due_few in
    omega (arith, square, product)

pub dv01-small : (left due growth : ℕ) → AreInRange left due growth → 100000 * left * due < 2 ^ 62 * (growth * growth)
dv01-small left due growth are =
    let square = square-least growth are.growth_least in
    let product = due-most left due are.left_few are.due_few in
    omega (arith, square, product)

-- in the words of the rule
pub duration-printed : (left growth f : ℕ) → 0 < growth → 2 * f * growth ≤ 2 * (1000 * (left * 1000000)) + growth → 2 * (1000 * (left * 1000000)) ≤ 2 * f * growth + growth
    → IsPrintedThousandths (record { top = left * 1_000_000; bottom = growth }) f
duration-printed left growth f some above below = printed-nearest (1000 * (left * 1000000)) growth f some above below

pub convexity-printed : (left growth f : ℕ) → 0 < growth * growth → 2 * f * (growth * growth) ≤ 2 * (2000 * (left * 1000000 * (left * 1000000))) + growth * growth → 2 * (2000 * (left * 1000000 * (left * 1000000))) ≤ 2 * f * (growth * growth) + growth * growth
    → IsPrintedThousandths (record { top = 2 * (left * 1_000_000) ^ 2; bottom = growth ^ 2 }) f
convexity-printed left growth f some above below = record {
  some = rw (pow-two growth) some;
  not_far_above = rw (pow-two growth, pow-two (left * 1_000_000)) (omega (arith, above));
  not_far_below = rw (pow-two growth, pow-two (left * 1_000_000)) (omega (arith, below));
}

pub dv01-printed : (left due growth f : ℕ) → 0 < growth * growth → 2 * f * (growth * growth) ≤ 2 * (100000 * left * due) + growth * growth → 2 * (100000 * left * due) ≤ 2 * f * (growth * growth) + growth * growth
    → IsPrintedFor (record { top = 100_000 * left * due; bottom = growth ^ 2 }) f
dv01-printed left due growth f some above below = record {
  some = rw (pow-two growth) some;
  not_far_above = rw (pow-two growth) (omega (arith, above));
  not_far_below = rw (pow-two growth) (omega (arith, below));
}

pub most-few : (shape : Shape1) → most_left shape ≤ 720
most-few OnePeriod = lit≤ tt
most-few AtRedemption = lit≤ tt

-- numbers that stand for a payment at a yield
pub record AreNumbers (payment : SinglePayment) (y : ℤ) (left due growth : ℕ) : Type 0 where
  pub left_is : left ≡ unsigned_abs payment.left
  pub due_is : due ≡ unsigned_abs payment.due
  pub growth_is : growth ≡ unsigned_abs (rule.growth payment y)
  pub in_range : AreInRange left due growth

pub single-duration : (payment : SinglePayment) (y : ℤ) (left due growth f : ℕ) → AreNumbers payment y left due growth → 2 * f * growth ≤ 2 * (1000 * (left * 1000000)) + growth → 2 * (1000 * (left * 1000000)) ≤ 2 * f * growth + growth
    → IsPrintedThousandths (single_duration payment y) f
single-duration payment y left due growth f are above below =
    let least = are.in_range.growth_least in
    subst (λ g. IsPrintedThousandths (record { top = unsigned_abs payment.left * 1_000_000; bottom = g }) f) are.growth_is
    (subst (λ l. IsPrintedThousandths (record { top = l * 1_000_000; bottom = growth }) f) are.left_is
    (duration-printed left growth f (omega (arith, least)) above below))

pub single-convexity : (payment : SinglePayment) (y : ℤ) (left due growth f : ℕ) → AreNumbers payment y left due growth → 2 * f * (growth * growth) ≤ 2 * (2000 * (left * 1000000 * (left * 1000000))) + growth * growth → 2 * (2000 * (left * 1000000 * (left * 1000000))) ≤ 2 * f * (growth * growth) + growth * growth
    → IsPrintedThousandths (single_convexity payment y) f
single-convexity payment y left due growth f are above below =
    subst (λ g. IsPrintedThousandths (record { top = 2 * (unsigned_abs payment.left * 1_000_000) ^ 2; bottom = g ^ 2 }) f) are.growth_is
    (subst (λ l. IsPrintedThousandths (record { top = 2 * (l * 1_000_000) ^ 2; bottom = growth ^ 2 }) f) are.left_is
    (convexity-printed left growth f (growth-some left due growth are.in_range) above below))

pub single-dv01 : (payment : SinglePayment) (y : ℤ) (left due growth f : ℕ) → AreNumbers payment y left due growth → 2 * f * (growth * growth) ≤ 2 * (100000 * left * due) + growth * growth → 2 * (100000 * left * due) ≤ 2 * f * (growth * growth) + growth * growth
    → IsPrintedFor (single_dv01 payment y) f
single-dv01 payment y left due growth f are above below =
    subst (λ g. IsPrintedFor (record { top = 100_000 * unsigned_abs payment.left * unsigned_abs payment.due; bottom = g ^ 2 }) f) are.growth_is
    (subst (λ d. IsPrintedFor (record { top = 100_000 * unsigned_abs payment.left * d; bottom = growth ^ 2 }) f) are.due_is
    (subst (λ l. IsPrintedFor (record { top = 100_000 * l * due; bottom = growth ^ 2 }) f) are.left_is
    (dv01-printed left due growth f (growth-some left due growth are.in_range) above below)))
