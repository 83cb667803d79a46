-- The figures that are printed of a series: duration and convexity.
use Rattle.std.proofs.Common.{◌≡◌, ℕ, ◌+◌, ◌-◌, ◌*◌, ◌^◌, ◌<◌, ◌≤◌, arith, lit<, ℤ}
use Rattle.std.proofs.Math.Nat.{mul-le-mul, mul-le-mul_right, mul-pos, one-le-pow}
use Rattle.muni_rule.specs.Payments.{PaymentSeries, payment_at}
use Rattle.muni_rule.specs.ManyPeriods.{to_come, discount_divisor, whole_sum}
use Rattle.muni_rule.proofs.PowerLemmas.{pow-two}
use Rattle.muni_rule.proofs.SumLemmas.{tail_sum}
use Rattle.muni_rule.proofs.EnclosedLemmas.{divisor-least}
use Rattle.muni_multi.specs.LastStep.{discount_low}
use Rattle.muni_multi.specs.Horner.{sum_low}
use Rattle.muni_rule.specs.Sensitivities.{IsPrintedThousandths, days_to, weighted_sum, duration, convexity}
use Rattle.muni_risk.specs.Sums.{days_of, weighted}
use Rattle.muni_risk.specs.declared.sums.Weight.{Weight}
use Rattle.muni_risk.specs.declared.sums.Weight.TheVariants.{Days, DaysTwice}
use Rattle.muni_risk.proofs.Accuracy.{AreEnds, near-below, near-above}
use Rattle.muni_risk.proofs.SeriesSums.{AreSums, are-ends, ends-most, weighted_sum-tail, whole_sum-tail}

-- a figure is the nearest of two sums' quotient, times by and divided by over
pub record IsNearest (f p whole by over : ℕ) : Type 0 where
  pub above : 2 * f * (whole * over) ≤ 2 * (p * by) + whole * over
  pub below : 2 ^ 53 * (2 * (p * by)) ≤ (2 ^ 53 + 1) * (2 * f * (whole * over) + whole * over) + 2 * (whole * by)

-- and printed for that of the sums t and w
record IsNear (f t w by over : ℕ) : Type 0 where
  above : 2 * f * (over * w) ≤ 2 * (t * by) + over * w
  below : 2_000_000 * (t * by) ≤ 2_000_000 * f * (over * w) + 1_000_002 * (over * w)
  some : 0 < w

whole-positive : (t w x p q o u whole : ℕ) → 0 < x → AreEnds t w x p q o u whole → 0 < w
whole-positive t w x p q o u whole some ends =
    let one : 2 ^ 60 * x ≤ o * x = mul-le-mul_right x ends.whole_some in
    let low = ends.whole_low in
    omega (arith, one, low)

figure-near : (series : PaymentSeries) (y : ℤ) (s : ℕ) (weight : Weight) (number : ℕ → ℕ) (most whole f by over : ℕ) → AreSums series y s weight number most whole → 2 * (most * by) ≤ 5_390_000 * over → by ≤ 3 * over
    → IsNearest f (sum_low (weighted weight series) (discount_low y) (series.n - s) s) whole by over
    → IsNear f (tail_sum (λ k. payment_at series k * number (days_of series k)) 2000000 (discount_divisor y) (series.n - s) s) (tail_sum (payment_at series) 2000000 (discount_divisor y) (series.n - s) s) by over
figure-near series y s weight number most whole f by over are limit few nearest =
    let ends = are-ends series y s weight number most whole are in
    let least = divisor-least y are.within in
    record {
      above = near-below _ _ _ _ _ _ _ whole f by over ends nearest.above;
      below = near-above _ _ _ _ _ _ _ whole f by over most ends (ends-most series y s weight number most whole are) limit few nearest.above nearest.below;
      some = whole-positive _ _ _ _ _ _ _ whole (one-le-pow (series.n - s - 1) (discount_divisor y) (omega (arith, least))) ends;
    }

-- by 50,000,000 and over 9v for the duration
duration-of : (t w g v f over T W : ℕ) → T ≡ g * t → W ≡ g * w → 0 < g → 0 < v → over ≡ 9 * v → IsNear f t w 50_000_000 over → IsPrintedThousandths (record { top = T * 2_000_000; bottom = 360 * v * W }) f
duration-of t w g v f over T W sum whole some divisor is near =
    let above : (2 * f * (9 * v * w)) * g ≤ (2 * (t * 50_000_000) + 9 * v * w) * g = mul-le-mul_right g (rw is at near.above) in
    let below : (2_000_000 * (t * 50_000_000)) * g ≤ (2_000_000 * f * (9 * v * w) + 1_000_002 * (9 * v * w)) * g = mul-le-mul_right g (rw is at near.below) in
    let product : 0 < v * (g * w) = mul-pos divisor (mul-pos some near.some) in
    record {
      some = rw whole (omega (arith, product));
      not_far_above = rw (sum, whole) (omega (arith, above));
      not_far_below = rw (sum, whole) (omega (arith, below));
    }

-- by 2,500,000,000,000 and over 81v^2 for the convexity
convexity-of : (t w g v f over T W : ℕ) → T ≡ g * t → W ≡ g * w → 0 < g → 0 < v → over ≡ 81 * v * v → IsNear f t w 2_500_000_000_000 over → IsPrintedThousandths (record { top = T * 2_000_000 ^ 2; bottom = 129_600 * v ^ 2 * W }) f
convexity-of t w g v f over T W sum whole some divisor is near =
    let above : (2 * f * (81 * v * v * w)) * g ≤ (2 * (t * 2_500_000_000_000) + 81 * v * v * w) * g = mul-le-mul_right g (rw is at near.above) in
    let below : (2_000_000 * (t * 2_500_000_000_000)) * g ≤ (2_000_000 * f * (81 * v * v * w) + 1_000_002 * (81 * v * v * w)) * g = mul-le-mul_right g (rw is at near.below) in
    let product : 0 < v * v * (g * w) = mul-pos (mul-pos divisor divisor) (mul-pos some near.some) in
    let square = pow-two v in
    record {
      some = rw (whole, square) (omega (arith, product));
      not_far_above = rw (sum, whole, square) (omega (arith, above));
      not_far_below = rw (sum, whole, square) (omega (arith, below));
    }

pub duration-limit : (y over : ℕ) → 1949995 ≤ y → over ≡ 9 * y → 2 * (18000 * 50_000_000) ≤ 5_390_000 * over
duration-limit y over least is = omega arith

pub square-least : (v over : ℕ) → 1949995 ≤ v → over ≡ 81 * v * v → 81 * (1949995 * 1949995) ≤ over
square-least v over least is = let square : 1949995 * 1949995 ≤ v * v = mul-le-mul least least in omega (arith, square, is)

pub duration-printed : (series : PaymentSeries) (y : ℤ) (s whole f over : ℕ) → AreSums series y s Days (λ d. d) 18000 whole → over ≡ 9 * discount_divisor y
    → IsNearest f (sum_low (weighted Days series) (discount_low y) (series.n - s) s) whole 50_000_000 over → IsPrintedThousandths (duration (to_come series) y) f
duration-printed series y s whole f over are is nearest =
    let least = divisor-least y are.within in
    duration-of (tail_sum (λ k. payment_at series k * days_of series k) 2000000 (discount_divisor y) (series.n - s) s) (tail_sum (payment_at series) 2000000 (discount_divisor y) (series.n - s) s) (2000000 ^ s) (discount_divisor y) f over
    (weighted_sum (to_come series) (days_to (to_come series)) y) (whole_sum (to_come series) y)
    (weighted_sum-tail series y (λ d. d) s are.is are.first) (whole_sum-tail series y s are.is are.first) (one-le-pow s 2000000 (lit< tt)) (omega (arith, least)) is
    (figure-near series y s Days (λ d. d) 18000 whole f 50_000_000 over are (duration-limit (discount_divisor y) over least is) (omega (arith, is, least)) nearest)

pub convexity-printed : (series : PaymentSeries) (y : ℤ) (s whole f over : ℕ) → AreSums series y s DaysTwice (λ d. d * (d + 180)) 327240000 whole → over ≡ 81 * discount_divisor y * discount_divisor y
    → IsNearest f (sum_low (weighted DaysTwice series) (discount_low y) (series.n - s) s) whole 2_500_000_000_000 over → IsPrintedThousandths (convexity (to_come series) y) f
convexity-printed series y s whole f over are is nearest =
    let least = divisor-least y are.within in
    let some = square-least (discount_divisor y) over least is in
    convexity-of (tail_sum (λ k. payment_at series k * (days_of series k * (days_of series k + 180))) 2000000 (discount_divisor y) (series.n - s) s) (tail_sum (payment_at series) 2000000 (discount_divisor y) (series.n - s) s) (2000000 ^ s) (discount_divisor y) f over
    (weighted_sum (to_come series) (λ k. days_to (to_come series) k * (days_to (to_come series) k + 180)) y) (whole_sum (to_come series) y)
    (weighted_sum-tail series y (λ d. d * (d + 180)) s are.is are.first) (whole_sum-tail series y s are.is are.first) (one-le-pow s 2000000 (lit< tt)) (omega (arith, least)) is
    (figure-near series y s DaysTwice (λ d. d * (d + 180)) 327240000 whole f 2_500_000_000_000 over are (omega (arith, some)) (omega (arith, some)) nearest)
