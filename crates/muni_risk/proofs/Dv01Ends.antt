-- The DV01 of a series, from each end of its sum with days.
use Rattle.std.proofs.Common.{◌≡◌, ℕ, suc, ◌+◌, ◌-◌, ◌*◌, ◌/◌, ◌^◌, ◌<◌, ◌≤◌, refl, sym, ap, ◌∙◌, subst, arith, lit≤, lit<, ℤ}
use Rattle.std.proofs.Math.Nat.{mul-pos, mul-le-mul}
use Rattle.muni_rule.specs.Payments.{PaymentSeries, IsSeries, payment_at}
use Rattle.muni_rule.specs.ManyPeriods.{to_come, discount_divisor, discounted_sum, whole_sum, worth_power}
use Rattle.muni_rule.specs.Ranges.{IsManyPeriodsBoundary}
use Rattle.muni_rule.proofs.SumLemmas.{tail_sum, tail_sum-all, tail_sum-some}
use Rattle.muni_rule.proofs.SeriesLemmas.{payment-last, payments-count, asked_power-series}
use Rattle.muni_span.proofs.Quotients.{rounded_plain}
use Rattle.muni_span.proofs.FactorSteps.{part-is}
use Rattle.muni_multi.specs.LastStep.{discount_low, discount_high, part_low, part_high}
use Rattle.muni_multi.specs.Horner.{sum_low, sum_high}
use Rattle.muni_multi.specs.HornerLaws.{discount-is}
use Rattle.muni_rule.specs.Sensitivities.{IsPrintedDv01, days_to, weighted_sum}
use Rattle.muni_risk.specs.Sums.{days_of, weighted, factor}
use Rattle.muni_risk.specs.declared.sums.Weight.TheVariants.{Days}
use Rattle.muni_risk.proofs.Ends.{sum-narrow}
use Rattle.muni_risk.proofs.SeriesSums.{sum-is, sum-scaled, days-by}
use Rattle.muni_risk.proofs.Worths.{AreScaled, IsNarrow, AreWorthEnds, settled-holds, settled-narrow, settled-order, settled-small, half_year-small, printed-between, worth-ends}

-- the sum with days is that of all payments
weighted_sum-all : (series : PaymentSeries) (y : ℤ) → IsSeries series → weighted_sum (to_come series) (days_to (to_come series)) y ≡ tail_sum (λ k. payment_at series k * days_of series k) 2000000 (discount_divisor y) (series.n - 0) 0
weighted_sum-all series y is =
    let b : ℕ → ℕ = λ k. payment_at series k * days_of series k in
    let list : weighted_sum (to_come series) (days_to (to_come series)) y ≡ discounted_sum b 2000000 (discount_divisor y) series.n
    = ap (λ n. discounted_sum b 2000000 (discount_divisor y) n) (payments-count series is.skip) in
    let count : series.n - 0 ≡ series.n = omega arith in
    list ∙ (sym (tail_sum-all b 2000000 (discount_divisor y) series.n) ∙ ap (λ n. tail_sum b 2000000 (discount_divisor y) n 0) (sym count))

-- it is not 0, since the last payment is some days away
days_sum-some : (series : PaymentSeries) (y : ℤ) → IsSeries series → 2 ≤ series.n → 0 < tail_sum (λ k. payment_at series k * days_of series k) 2000000 (discount_divisor y) (series.n - 0) 0
days_sum-some series y is many =
    let b : ℕ → ℕ = λ k. payment_at series k * days_of series k in
    let m = series.n - 1 in
    let count : suc m ≡ series.n - 0 = omega arith in
    let payment = payment-last series (0 + m) is.skip (omega arith) in
    let redemption = is.redemption_from in
    let paid : 0 < payment_at series (0 + m) = omega (arith, payment, redemption) in
    let days : 0 < days_of series (0 + m) = omega arith in
    let last : 0 < b (0 + m) = mul-pos paid days in
    subst (λ n. 0 < tail_sum b 2000000 (discount_divisor y) n 0) count (tail_sum-some b 2000000 (discount_divisor y) m 0 (lit< tt) last)

narrow-days : (lo hi : ℕ) → lo ≤ hi → hi ≤ 560 * (4096 * (10800000000000 * (18000 * 2 ^ 32))) → 2 ^ 60 * hi ≤ 2 ^ 60 * lo + 198 * hi + 900 * 2 ^ 60 → IsNarrow lo hi
narrow-days lo hi order small narrow = record { ordered = order; small = omega (arith, small); narrow = omega (arith, small, narrow) }

days-most : (d : ℕ) → d ≤ 18000 → factor Days d ≤ 18000 * 2 ^ 32
days-most d few = omega arith

-- the ends that the program computes
pub record AreDv01Ends (series : PaymentSeries) (y : ℤ) (l h l' h' : ℕ) : Type 0 where
  pub is : IsSeries series
  pub within : IsManyPeriodsBoundary y
  pub many : 2 ≤ series.n
  pub half_year : AreScaled (sum_low (weighted Days series) (discount_low y) (series.n - 0) 0) (sum_high (weighted Days series) (discount_high y) (series.n - 0) 0) (discount_low y) (discount_high y) l h
  pub part : AreScaled l h (part_low y series.a) (part_high y series.a) l' h'

-- and the figure that it prints
abbrev pub IsMiddle : ℕ → ℕ → ℕ → Type 0
IsMiddle x l h = x ≡ (l + h + 1_296_000_000_000 * 2 ^ 44) / (2 * (1_296_000_000_000 * 2 ^ 44))

worth-ends_of : (series : PaymentSeries) (y : ℤ) (l h l' h' x : ℕ) → AreDv01Ends series y l h l' h' → IsMiddle x l' h'
    → AreWorthEnds x (tail_sum (λ k. payment_at series k * days_of series k) 2000000 (discount_divisor y) (series.n - 0) 0) (whole_sum (to_come series) y) (discount_divisor y) (series.n - 0 - 1) (180 - series.a)
worth-ends_of series y l h l' h' x are printed =
    let t = tail_sum (λ k. payment_at series k * days_of series k) 2000000 (discount_divisor y) (series.n - 0) 0 in
    let many = are.many in
    let few = are.is.n_to in
    let lo = sum_low (weighted Days series) (discount_low y) (series.n - 0) 0 in
    let hi = sum_high (weighted Days series) (discount_high y) (series.n - 0) 0 in
    let sum = sum-is series y Days (18000 * 2 ^ 32) are.is are.within (lit≤ tt) days-most 0 (omega arith) in
    let end = sum-narrow _ _ _ _ _ _ (let steps : series.n - 0 - 1 ≤ 99 = omega arith in steps) sum in
    let scaled = sum-scaled series y 0 Days (λ d. d) 18000 days-by in
    let discount = discount-is y are.within in
    let part = part-is (discount_divisor y) (discount_low y) (discount_high y) (180 - series.a) discount (omega arith) in
    let narrow = narrow-days lo hi sum.ordered end.small end.narrow in
    let width = settled-narrow lo hi (discount_low y) (discount_high y) l h (part_low y series.a) (part_high y series.a) l' h' (discount_divisor y) (180 - series.a) narrow discount part are.half_year are.part in
    let order = settled-order lo hi (discount_low y) (discount_high y) l h (part_low y series.a) (part_high y series.a) l' h' (discount_divisor y) (180 - series.a) narrow discount part are.half_year are.part in
    worth-ends x t (whole_sum (to_come series) y) (discount_divisor y) (series.n - 0 - 1) (180 - series.a) l' h'
    (printed-between x l' h' width order printed)
    (settled-holds lo hi (discount_low y) (discount_high y) l h (part_low y series.a) (part_high y series.a) l' h' (discount_divisor y) (discount_divisor y ^ (series.n - 0 - 1)) (180 - series.a) t discount part
    (let below = sum.below in omega (arith, below, scaled)) (let above = sum.above in omega (arith, above, scaled)) are.half_year are.part)

pub dv01-printed : (series : PaymentSeries) (y : ℤ) (l h l' h' x : ℕ) → AreDv01Ends series y l h l' h' → IsMiddle x l' h' → IsPrintedDv01 (to_come series) y x
dv01-printed series y l h l' h' x are printed =
    let t = tail_sum (λ k. payment_at series k * days_of series k) 2000000 (discount_divisor y) (series.n - 0) 0 in
    let ends = worth-ends_of series y l h l' h' x are printed in
    let sum : t ≡ weighted_sum (to_come series) (days_to (to_come series)) y = sym (weighted_sum-all series y are.is) in
    let count : series.n - 0 - 1 ≡ series.n - 1 = omega arith in
    let some = days_sum-some series y are.is are.many in
    let same : AreWorthEnds x (weighted_sum (to_come series) (days_to (to_come series)) y) (whole_sum (to_come series) y) (discount_divisor y) (series.n - 1) (180 - series.a)
    = subst (λ m. AreWorthEnds x (weighted_sum (to_come series) (days_to (to_come series)) y) (whole_sum (to_come series) y) (discount_divisor y) m (180 - series.a)) count
    (subst (λ s. AreWorthEnds x s (whole_sum (to_come series) y) (discount_divisor y) (series.n - 0 - 1) (180 - series.a)) sum ends) in
    let positive : 0 < weighted_sum (to_come series) (days_to (to_come series)) y = subst (λ s. 0 < s) sum some in
    record {
      some = (let more : 0 < weighted_sum (to_come series) (days_to (to_come series)) y * 2_000_000 = omega (arith, positive) in more);
      below = subst (λ z. z ≤ (weighted_sum (to_come series) (days_to (to_come series)) y * 2_000_000) ^ 180 * worth_power (to_come series) y)
          (sym (asked_power-series series y (1_800 * (2_000_000 * x - 1_000_002) * (360 * discount_divisor y * whole_sum (to_come series) y)) are.is.skip)) same.below;
      above = subst (λ z. (weighted_sum (to_come series) (days_to (to_come series)) y * 2_000_000) ^ 180 * worth_power (to_come series) y ≤ z)
          (sym (asked_power-series series y (1_800 * (2_000_000 * x + 1_000_002) * (360 * discount_divisor y * whole_sum (to_come series) y)) are.is.skip)) same.above;
    }

-- the ends fit
pub dv01-small : (series : PaymentSeries) (y : ℤ) (l h l' h' : ℕ) → AreDv01Ends series y l h l' h' → (l' ≤ 2 ^ 112) × (h' ≤ 2 ^ 112)
dv01-small series y l h l' h' are =
    let many = are.many in
    let few = are.is.n_to in
    let lo = sum_low (weighted Days series) (discount_low y) (series.n - 0) 0 in
    let hi = sum_high (weighted Days series) (discount_high y) (series.n - 0) 0 in
    let sum = sum-is series y Days (18000 * 2 ^ 32) are.is are.within (lit≤ tt) days-most 0 (omega arith) in
    let end = sum-narrow _ _ _ _ _ _ (let steps : series.n - 0 - 1 ≤ 99 = omega arith in steps) sum in
    let discount = discount-is y are.within in
    let part = part-is (discount_divisor y) (discount_low y) (discount_high y) (180 - series.a) discount (omega arith) in
    let narrow = narrow-days lo hi sum.ordered end.small end.narrow in
    let order = settled-order lo hi (discount_low y) (discount_high y) l h (part_low y series.a) (part_high y series.a) l' h' (discount_divisor y) (180 - series.a) narrow discount part are.half_year are.part in
    let small = settled-small lo hi (discount_low y) (discount_high y) l h (part_low y series.a) (part_high y series.a) l' h' (discount_divisor y) (180 - series.a) narrow discount part are.half_year are.part in
    (omega (arith, order, small), small)

-- the first step leaves ends that may be multiplied again
pub first-small : (series : PaymentSeries) (y : ℤ) (h : ℕ) → IsSeries series → IsManyPeriodsBoundary y → 2 ≤ series.n
    → h ≡ (sum_high (weighted Days series) (discount_high y) (series.n - 0) 0 * discount_high y + (2 ^ 60 - 1)) / 2 ^ 60 → h ≤ 1703823925781251 * 2 ^ 60
first-small series y h is within many high =
    let few = is.n_to in
    let hi = sum_high (weighted Days series) (discount_high y) (series.n - 0) 0 in
    let sum = sum-is series y Days (18000 * 2 ^ 32) is within (lit≤ tt) days-most 0 (omega arith) in
    let end = sum-narrow _ _ _ _ _ _ (let steps : series.n - 0 - 1 ≤ 99 = omega arith in steps) sum in
    let discount = discount-is y within in
    let small = end.small in
    let round = rounded_plain (2 ^ 60) 0 (hi * discount_high y) (0 / 2 ^ 60) h (lit< tt) refl high in
    half_year-small hi (discount_high y) h (omega (arith, small)) discount.at_most round.ceiling_near

pub part-small : (series : PaymentSeries) (y : ℤ) → IsSeries series → IsManyPeriodsBoundary y → part_high y series.a ≤ 2 ^ 61
part-small series y is within =
    let part = part-is (discount_divisor y) (discount_low y) (discount_high y) (180 - series.a) (discount-is y within) (omega arith) in
    let low = part.low in
    let near = part.narrow in
    omega (arith, low, near)

pub product-small : (h q : ℕ) → h ≤ 1703823925781251 * 2 ^ 60 → q ≤ 2 ^ 61 → h * q < 2 ^ 187
product-small h q small few =
    let product : h * q ≤ 1703823925781251 * 2 ^ 60 * 2 ^ 61 = mul-le-mul small few in
    omega (arith, product)

-- what a product is, from what each call gives
pub scaled-low : (f : ℕ → ℕ) (l lo r d : ℕ) → l ≡ lo * r / 2 ^ 60 → lo ≡ f r → r ≡ d → l ≡ f d * d / 2 ^ 60
scaled-low f l lo r d product sum factor = rw (product, sum, factor) refl

pub scaled-high : (f : ℕ → ℕ) (h hi s d : ℕ) → h ≡ (hi * s + (2 ^ 60 - 1)) / 2 ^ 60 → hi ≡ f s → s ≡ d → h ≡ (f d * d + (2 ^ 60 - 1)) / 2 ^ 60
scaled-high f h hi s d product sum factor = rw (product, sum, factor) refl
