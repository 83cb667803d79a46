-- Laws of the duration.
use Rattle.std.proofs.Common.{◌≡◌, ℕ, ◌+◌, ◌-◌, ◌*◌, ◌<◌, ◌≤◌, length, slice_index_or, sym, ap, ◌∙◌, ⊎_elim, arith, ℤ, pos}
use Rattle.std.proofs.Math.Nat.{mul-le-mul, mul-le-mul_left, mul-le-mul_right}
use Rattle.std.proofs.lemmas.Bool.{cases_lt}
use Rattle.muni_rule.specs.ManyPeriods.{PeriodicPayments, discount_divisor, discounted_sum, whole_sum}
use Rattle.muni_rule.proofs.SumLemmas.{tail_sum-all}
use Rattle.muni_rule.specs.Sensitivities.{days_to, weighted_sum}
use Rattle.muni_rule.specs.SensitivityLaws.{days_left, IsZero, DurationIsWithinYears, DurationIsAtMostYears, DurationOfZeroIsYears}
use Rattle.muni_rule.proofs.TailLemmas.{tail-times, tail-most}

-- two sums of which the one is at most so many times the other
sum-most : (b c : ℕ → ℕ) (f h v n : ℕ) → ((k : ℕ) → k < n → c k ≤ f * b k) → discounted_sum c h v n ≤ f * discounted_sum b h v n
sum-most b c f h v n most =
    let one = tail-most b c f h v n most n 0 (omega arith) in
    let first = tail_sum-all b h v n in
    let second = tail_sum-all c h v n in
    rw (first, second) at one

days-rise : (a k n : ℕ) → k < n → 180 * k + (180 - a) ≤ 180 * (n - 1) + (180 - a)
days-rise a k n less = omega arith

-- no payment is later than the last
pub weighted-most : (bond : PeriodicPayments) (y : ℤ) → weighted_sum bond (days_to bond) y ≤ days_left bond * whole_sum bond y
weighted-most bond y =
    sum-most (λ k. slice_index_or bond.payments k 0) (λ k. slice_index_or bond.payments k 0 * days_to bond k) (days_left bond) 2000000 (discount_divisor y) (length bond.payments)
    (λ k less. let product : slice_index_or bond.payments k 0 * days_to bond k ≤ slice_index_or bond.payments k 0 * days_left bond = mul-le-mul_left (slice_index_or bond.payments k 0) (days-rise bond.a k (length bond.payments) less) in
    omega (arith, product))

-- and of a zero each other payment is nothing
zero-place : (p d last k n : ℕ) → k < n → (k + 1 < n → p ≡ 0) → (k ≡ n - 1 → d ≡ last) → last * p ≤ 1 * (p * d)
zero-place p d last k n less none same =
    ⊎_elim
    (λ (early : k + 1 < n). let zero_payment = none early in rw zero_payment (omega arith))
    (λ (late : n ≤ k + 1). let days = same (omega arith) in rw days (omega arith))
    (cases_lt (k + 1) n)

sum-times : (b : ℕ → ℕ) (f h v n : ℕ) → discounted_sum (λ k. f * b k) h v n ≡ discounted_sum b h v n * f
sum-times b f h v n =
    sym (tail_sum-all (λ k. f * b k) h v n) ∙ (tail-times b (λ k. f * b k) f h v (λ k. omega arith) n 0 ∙ ap (λ x. x * f) (tail_sum-all b h v n))

pub zero-least : (bond : PeriodicPayments) (y : ℤ) → IsZero bond → days_left bond * whole_sum bond y ≤ weighted_sum bond (days_to bond) y
zero-least bond y is =
    let one = sum-most (λ k. slice_index_or bond.payments k 0 * days_to bond k) (λ k. days_left bond * slice_index_or bond.payments k 0) 1 2000000 (discount_divisor y) (length bond.payments)
    (λ k less. zero-place (slice_index_or bond.payments k 0) (days_to bond k) (days_left bond) k (length bond.payments) less (is k) (ap (days_to bond))) in
    let times = sum-times (λ k. slice_index_or bond.payments k 0) (days_left bond) 2000000 (discount_divisor y) (length bond.payments) in
    omega (arith, one, times)

within-years : (t w d v : ℕ) → t ≤ d * w → t * 2_000_000 * (360 * v) ≤ d * 2_000_000 * (360 * v * w)
within-years t w d v most = let product : t * v ≤ d * w * v = mul-le-mul_right v most in omega (arith, product)

at_most-years : (t w d v : ℕ) → 2_000_000 ≤ v → t ≤ d * w → t * 2_000_000 * 360 ≤ d * (360 * v * w)
at_most-years t w d v least most =
    let product : t * 2_000_000 ≤ d * w * v = mul-le-mul most least in
    omega (arith, product)

pub duration-within : DurationIsWithinYears
duration-within bond y = within-years (weighted_sum bond (days_to bond) y) (whole_sum bond y) (days_left bond) (discount_divisor y) (weighted-most bond y)

pub duration-at_most : DurationIsAtMostYears
duration-at_most bond y = at_most-years (weighted_sum bond (days_to bond) (pos y)) (whole_sum bond (pos y)) (days_left bond) (2_000_000 + y) (omega arith) (weighted-most bond (pos y))

zero-years : (t w d v : ℕ) → t ≡ d * w → t * 2_000_000 * (360 * v) ≡ d * 2_000_000 * (360 * v * w)
zero-years t w d v same = rw same (omega arith)

zero-same : (bond : PeriodicPayments) (y : ℤ) → IsZero bond → weighted_sum bond (days_to bond) y ≡ days_left bond * whole_sum bond y
zero-same bond y is =
    let most = weighted-most bond y in
    let least = zero-least bond y is in
    omega (arith, most, least)

pub duration-zero : DurationOfZeroIsYears
duration-zero bond y is = zero-years (weighted_sum bond (days_to bond) y) (whole_sum bond y) (days_left bond) (discount_divisor y) (zero-same bond y is)
