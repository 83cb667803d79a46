-- The sums of a series, from its first payment that is not 0 on, and the figures that are printed for them.
use Rattle.std.proofs.Common.{◌≡◌, ℕ, suc, ◌+◌, ◌-◌, ◌*◌, ◌/◌, ◌^◌, ◌<◌, ◌≤◌, refl, sym, ap, ◌∙◌, subst, arith, lit≤, ℤ}
use Rattle.std.proofs.Math.Nat.{mul-le-mul, mul-le-mul_left, one-le-pow}
use Rattle.std.proofs.lemmas.Bool.Decides.{nat_tests}
use Rattle.muni_rule.specs.Payments.{PaymentSeries, IsSeries, payment_at}
use Rattle.muni_rule.specs.PaymentLaws.{interest_at_place}
use Rattle.muni_rule.specs.ManyPeriods.{to_come, discount_divisor, discounted_sum, whole_sum}
use Rattle.muni_rule.specs.Ranges.{IsManyPeriodsBoundary}
use Rattle.muni_rule.proofs.SumLemmas.{tail_sum, tail_sum-all}
use Rattle.muni_rule.proofs.SeriesLemmas.{payment-early, payment-last, payments-count, whole_sum-series}
use Rattle.muni_rule.proofs.EnclosedLemmas.{divisor-least}
use Rattle.muni_multi.specs.LastStep.{discount_low, discount_high}
use Rattle.muni_multi.specs.Horner.{sum_low, sum_high}
use Rattle.muni_multi.specs.HornerLaws.{discount-is, sum_low-more}
use Rattle.muni_rule.specs.Sensitivities.{weighted_sum}
use Rattle.muni_risk.specs.Sums.{factor, days_of, weighted, IsFirstPaid}
use Rattle.muni_risk.specs.declared.sums.Weight.{Weight}
use Rattle.muni_risk.specs.declared.sums.Weight.TheVariants.{One, Days, DaysTwice}
use Rattle.muni_risk.proofs.Ends.{IsSum, sums, sum-narrow}
use Rattle.muni_rule.proofs.TailLemmas.{tail-times, tail-most, tail-skip}
use Rattle.muni_risk.proofs.Accuracy.{AreEnds, sum-most}

-- ---- the payments
interest-most : (skip first regular k : ℕ) → first ≤ 10800000000000 → regular ≤ 5400000000000 → interest_at_place skip first regular k ≤ 10800000000000
interest-most skip first regular k one other = grind (arith, nat_tests)

pub payment-early_most : (series : PaymentSeries) (k : ℕ) → IsSeries series → k + 1 < series.n → payment_at series k ≤ 10800000000000
payment-early_most series k is early =
    let payment = payment-early series k is.skip early in
    let most = interest-most series.skip series.first series.regular k is.first is.regular in
    omega (arith, payment, most)

pub payment-last_most : (series : PaymentSeries) (k : ℕ) → IsSeries series → k + 1 ≡ series.n → payment_at series k ≤ 82800000000000
payment-last_most series k is last =
    let payment = payment-last series k is.skip last in
    let most = interest-most series.skip series.first series.regular k is.first is.regular in
    let redemption = is.redemption_to in
    omega (arith, payment, most, redemption)

pub days-few : (series : PaymentSeries) (k : ℕ) → IsSeries series → k < series.n → days_of series k ≤ 18000
days-few series k is less = let few = is.n_to in omega (arith, few, less)

-- factors are at most f
early-weighted : (series : PaymentSeries) (weight : Weight) (f : ℕ) → IsSeries series → ((d : ℕ) → d ≤ 18000 → factor weight d ≤ f) → (k : ℕ) → k + 1 < series.n → 4096 * weighted weight series k ≤ 4096 * (10800000000000 * f)
early-weighted series weight f is most k early =
    let product : payment_at series k * factor weight (days_of series k) ≤ 10800000000000 * f
    = mul-le-mul (payment-early_most series k is early) (most (days_of series k) (days-few series k is (omega arith))) in
    omega (arith, product)

last-weighted : (series : PaymentSeries) (weight : Weight) (f : ℕ) → IsSeries series → ((d : ℕ) → d ≤ 18000 → factor weight d ≤ f) → (k : ℕ) → k + 1 ≡ series.n → 4096 * weighted weight series k ≤ 8 * (4096 * (10800000000000 * f))
last-weighted series weight f is most k last =
    let product : payment_at series k * factor weight (days_of series k) ≤ 82800000000000 * f
    = mul-le-mul (payment-last_most series k is last) (most (days_of series k) (days-few series k is (omega arith))) in
    omega (arith, product)

-- ---- the ends of a sum
pub sum-is : (series : PaymentSeries) (y : ℤ) (weight : Weight) (f : ℕ) → IsSeries series → IsManyPeriodsBoundary y → 1 ≤ f → ((d : ℕ) → d ≤ 18000 → factor weight d ≤ f) → (s : ℕ) → s < series.n
    → IsSum (4096 * (10800000000000 * f)) (tail_sum (weighted weight series) 2000000 (discount_divisor y) (series.n - s) s) (discount_divisor y) (series.n - s - 1)
    (sum_low (weighted weight series) (discount_low y) (series.n - s) s) (sum_high (weighted weight series) (discount_high y) (series.n - s) s)
sum-is series y weight f is within some most s less =
    let count : suc (series.n - s - 1) ≡ series.n - s = omega arith in
    subst (λ m. IsSum (4096 * (10800000000000 * f)) (tail_sum (weighted weight series) 2000000 (discount_divisor y) m s) (discount_divisor y) (series.n - s - 1) (sum_low (weighted weight series) (discount_low y) m s) (sum_high (weighted weight series) (discount_high y) m s)) count
    (sums (weighted weight series) (4096 * (10800000000000 * f)) series.n (discount_divisor y) (discount_low y) (discount_high y) (omega arith) (discount-is y within)
    (early-weighted series weight f is most) (last-weighted series weight f is most) (series.n - s - 1) s (omega arith))

-- no sum is too large to be multiplied
pub factor-most : (weight : Weight) (d : ℕ) → d ≤ 18000 → factor weight d ≤ 327240000 * 2 ^ 32
factor-most One d few = lit≤ tt
factor-most Days d few = omega arith
factor-most DaysTwice d few =
    let product : d * (d + 180) ≤ 18000 * 18180 = mul-le-mul few (let more : d + 180 ≤ 18180 = omega arith in more) in
    omega (arith, product)

pub sum-fits : (series : PaymentSeries) (y : ℤ) (weight : Weight) (s : ℕ) → IsSeries series → IsManyPeriodsBoundary y → s < series.n → sum_high (weighted weight series) (discount_high y) (series.n - s) s < 2 ^ 125
sum-fits series y weight s is within less =
    let few = is.n_to in
    let sum = sum-is series y weight (327240000 * 2 ^ 32) is within (lit≤ tt) (factor-most weight) s less in
    let narrow = sum-narrow _ _ _ _ _ _ (let most : series.n - s - 1 ≤ 99 = omega arith in most) sum in
    let small = narrow.small in
    omega (arith, small)

-- ---- the same sums in the rule's words
pub weighted_sum-tail : (series : PaymentSeries) (y : ℤ) (number : ℕ → ℕ) (s : ℕ) → IsSeries series → IsFirstPaid series s
    → weighted_sum (to_come series) (λ k. number (days_of series k)) y ≡ 2000000 ^ s * tail_sum (λ k. payment_at series k * number (days_of series k)) 2000000 (discount_divisor y) (series.n - s) s
weighted_sum-tail series y number s is first =
    let b : ℕ → ℕ = λ k. payment_at series k * number (days_of series k) in
    let within = first.within in
    let list : weighted_sum (to_come series) (λ k. number (days_of series k)) y ≡ discounted_sum b 2000000 (discount_divisor y) series.n
    = ap (λ n. discounted_sum b 2000000 (discount_divisor y) n) (payments-count series is.skip) in
    let count : s + (series.n - s) ≡ series.n = omega arith in
    let all : tail_sum b 2000000 (discount_divisor y) (s + (series.n - s)) 0 ≡ discounted_sum b 2000000 (discount_divisor y) series.n
    = ap (λ n. tail_sum b 2000000 (discount_divisor y) n 0) count ∙ tail_sum-all b 2000000 (discount_divisor y) series.n in
    let skipped = tail-skip b 2000000 (discount_divisor y) s (series.n - s) 0 (λ k less. let none = first.none_before k (omega arith) in rw none (omega arith)) in
    let place : 0 + s ≡ s = omega arith in
    list ∙ (sym all ∙ (skipped ∙ ap (λ i. 2000000 ^ s * tail_sum b 2000000 (discount_divisor y) (series.n - s) i) place))

pub whole_sum-tail : (series : PaymentSeries) (y : ℤ) (s : ℕ) → IsSeries series → IsFirstPaid series s → whole_sum (to_come series) y ≡ 2000000 ^ s * tail_sum (payment_at series) 2000000 (discount_divisor y) (series.n - s) s
whole_sum-tail series y s is first =
    let within = first.within in
    let count : s + (series.n - s) ≡ series.n = omega arith in
    let all : tail_sum (payment_at series) 2000000 (discount_divisor y) (s + (series.n - s)) 0 ≡ discounted_sum (payment_at series) 2000000 (discount_divisor y) series.n
    = ap (λ n. tail_sum (payment_at series) 2000000 (discount_divisor y) n 0) count ∙ tail_sum-all (payment_at series) 2000000 (discount_divisor y) series.n in
    let skipped = tail-skip (payment_at series) 2000000 (discount_divisor y) s (series.n - s) 0 (λ k less. first.none_before k (omega arith)) in
    let place : 0 + s ≡ s = omega arith in
    whole_sum-series series y is.skip ∙ (sym all ∙ (skipped ∙ ap (λ i. 2000000 ^ s * tail_sum (payment_at series) 2000000 (discount_divisor y) (series.n - s) i) place))

-- ---- the figures
-- a weight with days is a number in units of 2^-32, at most so many of them
pub record IsByDays (weight : Weight) (number : ℕ → ℕ) (most : ℕ) : Type 0 where
  pub same : (d : ℕ) → factor weight d ≡ number d * 2 ^ 32
  pub few : (d : ℕ) → d ≤ 18000 → number d ≤ most
  pub some : 1 ≤ most

pub days-by : IsByDays Days (λ d. d) 18000
days-by = record { same = λ d. refl; few = λ d few. few; some = lit≤ tt }

pub days_twice-by : IsByDays DaysTwice (λ d. d * (d + 180)) 327240000
days_twice-by = record {
  same = λ d. refl;
  few = λ d few. (let product : d * (d + 180) ≤ 18000 * 18180 = mul-le-mul few (let more : d + 180 ≤ 18180 = omega arith in more) in omega (arith, product));
  some = lit≤ tt;
}

-- the upper end of what the payments from a place on are worth on the day of the first of them, rounded up to
-- units of 2^-44
abbrev pub whole_end : PaymentSeries → ℤ → ℕ → ℕ
whole_end series y start = (sum_high (weighted One series) (discount_high y) (series.n - start) start + 65535) / 65536

-- what is known of a sum with days and of the whole one, from the first payment that is not 0 on
pub record AreSums (series : PaymentSeries) (y : ℤ) (s : ℕ) (weight : Weight) (number : ℕ → ℕ) (most whole : ℕ) : Type 0 where
  pub is : IsSeries series
  pub within : IsManyPeriodsBoundary y
  pub first : IsFirstPaid series s
  pub by_days : IsByDays weight number most
  pub whole_is : whole ≡ whole_end series y s

abbrev tail : PaymentSeries → ℤ → ℕ → (ℕ → ℕ) → ℕ
tail series y s number = tail_sum (λ k. payment_at series k * number (days_of series k)) 2000000 (discount_divisor y) (series.n - s) s

abbrev tail_whole : PaymentSeries → ℤ → ℕ → ℕ
tail_whole series y s = tail_sum (payment_at series) 2000000 (discount_divisor y) (series.n - s) s

whole-least : (series : PaymentSeries) (y : ℤ) (s : ℕ) → IsFirstPaid series s → 2 ^ 60 ≤ sum_low (weighted One series) (discount_low y) (series.n - s) s
whole-least series y s first =
    let within = first.within in
    let paid = first.paid in
    let count : suc (series.n - s - 1) ≡ series.n - s = omega arith in
    let more = sum_low-more (weighted One series) (discount_low y) (series.n - s - 1) s in
    subst (λ m. 2 ^ 60 ≤ sum_low (weighted One series) (discount_low y) m s) count (omega (arith, more, paid))

whole-ends : (hi whole : ℕ) → whole ≡ (hi + 65535) / 65536 → (hi ≤ 2 ^ 16 * whole) × (2 ^ 16 * whole ≤ hi + 2 ^ 16)
whole-ends hi whole is = (omega (arith, is), omega (arith, is))

weight-most : (weight : Weight) (number : ℕ → ℕ) (most : ℕ) → IsByDays weight number most → (d : ℕ) → d ≤ 18000 → factor weight d ≤ most * 2 ^ 32
weight-most weight number most by d few = let same = by.same d in let less = by.few d few in omega (arith, same, less)

pub sum-scaled : (series : PaymentSeries) (y : ℤ) (s : ℕ) (weight : Weight) (number : ℕ → ℕ) (most : ℕ) → IsByDays weight number most → tail_sum (weighted weight series) 2000000 (discount_divisor y) (series.n - s) s ≡ tail series y s number * 2 ^ 32
sum-scaled series y s weight number most by =
    tail-times (λ k. payment_at series k * number (days_of series k)) (weighted weight series) (2 ^ 32) 2000000 (discount_divisor y)
    (λ k. let same = by.same (days_of series k) in rw same (omega arith)) (series.n - s) s

whole-scaled : (series : PaymentSeries) (y : ℤ) (s : ℕ) → tail_sum (weighted One series) 2000000 (discount_divisor y) (series.n - s) s ≡ tail_whole series y s * 2 ^ 48
whole-scaled series y s = tail-times (payment_at series) (weighted One series) (2 ^ 48) 2000000 (discount_divisor y) (λ k. refl) (series.n - s) s

pub are-ends : (series : PaymentSeries) (y : ℤ) (s : ℕ) (weight : Weight) (number : ℕ → ℕ) (most whole : ℕ) → AreSums series y s weight number most whole
    → AreEnds (tail series y s number) (tail_whole series y s) (discount_divisor y ^ (series.n - s - 1))
    (sum_low (weighted weight series) (discount_low y) (series.n - s) s) (sum_high (weighted weight series) (discount_high y) (series.n - s) s)
    (sum_low (weighted One series) (discount_low y) (series.n - s) s) (sum_high (weighted One series) (discount_high y) (series.n - s) s) whole
are-ends series y s weight number most whole are =
    let less = are.first.within in
    let few = are.is.n_to in
    let some = are.by_days.some in
    let steps : series.n - s - 1 ≤ 99 = omega arith in
    let sum = sum-is series y weight (most * 2 ^ 32) are.is are.within (omega arith) (weight-most weight number most are.by_days) s less in
    let all = sum-is series y One (2 ^ 48) are.is are.within (lit≤ tt) (λ d few. (let same : 2 ^ 48 ≤ 2 ^ 48 = lit≤ tt in same)) s less in
    let scaled = sum-scaled series y s weight number most are.by_days in
    let whole_scaled = whole-scaled series y s in
    let near = whole-ends (sum_high (weighted One series) (discount_high y) (series.n - s) s) whole are.whole_is in
    record {
      sum_low = (let below = sum.below in omega (arith, below, scaled));
      sum_high = (let above = sum.above in omega (arith, above, scaled));
      sum_narrow = (sum-narrow _ _ _ _ _ _ steps sum).narrow;
      whole_low = (let below = all.below in omega (arith, below, whole_scaled));
      whole_high = (let above = all.above in omega (arith, above, whole_scaled));
      whole_narrow = (sum-narrow _ _ _ _ _ _ steps all).narrow;
      whole_some = whole-least series y s are.first;
      over = near.0;
      near = near.1;
      ordered = all.ordered;
    }

-- the sum with days is at most so many times the whole
pub ends-most : (series : PaymentSeries) (y : ℤ) (s : ℕ) (weight : Weight) (number : ℕ → ℕ) (most whole : ℕ) → AreSums series y s weight number most whole → sum_low (weighted weight series) (discount_low y) (series.n - s) s ≤ most * whole
ends-most series y s weight number most whole are =
    let less = are.first.within in
    let least = divisor-least y are.within in
    sum-most (tail series y s number) (tail_whole series y s) (discount_divisor y ^ (series.n - s - 1)) _ _ _ _ whole most
    (one-le-pow (series.n - s - 1) (discount_divisor y) (omega (arith, least))) (are-ends series y s weight number most whole are)
    (tail-most (payment_at series) (λ k. payment_at series k * number (days_of series k)) most 2000000 (discount_divisor y) series.n
    (λ k few. let number_few = are.by_days.few (days_of series k) (days-few series k are.is few) in
    let product : payment_at series k * number (days_of series k) ≤ payment_at series k * most = mul-le-mul_left (payment_at series k) number_few in
    omega (arith, product)) (series.n - s) s (omega arith))

pub whole-some : (series : PaymentSeries) (y : ℤ) (s whole : ℕ) → IsFirstPaid series s → IsSeries series → IsManyPeriodsBoundary y → whole ≡ whole_end series y s → (0 < whole) × (whole < 2 ^ 100)
whole-some series y s whole first is within same =
    let less = first.within in
    let few = is.n_to in
    let least = whole-least series y s first in
    let all = sum-is series y One (2 ^ 48) is within (lit≤ tt) (λ d few. (let same : 2 ^ 48 ≤ 2 ^ 48 = lit≤ tt in same)) s less in
    let ordered = all.ordered in
    let narrow = sum-narrow _ _ _ _ _ _ (let steps : series.n - s - 1 ≤ 99 = omega arith in steps) all in
    let small = narrow.small in
    (omega (arith, same, least, ordered), omega (arith, same, small))
