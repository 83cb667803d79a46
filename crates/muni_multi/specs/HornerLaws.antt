-- The laws of the sum from the last payment to the first, proved over its ends.
use Rattle.std.proofs.Common.{◌≡◌, ℕ, suc, zero, ◌+◌, ◌-◌, ◌*◌, ◌/◌, ◌^◌, ◌<◌, ◌≤◌, length, refl, sym, ap, ◌∙◌, subst, ⊎_elim, arith, lit≤, lit<, ℤ}
use Rattle.std.proofs.lemmas.Bool.{cases_lt}
use Rattle.std.proofs.lemmas.Bool.Decides.{nat_tests}
use Rattle.std.proofs.Math.Nat.{mul-le-mul, mul-le-mul_left, mul-le-mul_right, le_of_mul-le-mul_right, pow-le-pow_left, pow-suc, pow-zero}
use Rattle.muni_rule.specs.Payments.{PaymentSeries, IsSeries, payments_of, payment_at}
use Rattle.muni_rule.specs.PaymentLaws.{interest_at_place}
use Rattle.muni_rule.specs.ManyPeriods.{to_come, discount_divisor, whole_sum}
use Rattle.muni_rule.specs.Ranges.{IsManyPeriodsBoundary}
use Rattle.muni_rule.specs.WorthEnds.{HoldsWorth, IsNarrow}
use Rattle.muni_rule.proofs.SumLemmas.{tail_sum, tail_sum-more, tail_sum-one, tail_sum-all}
use Rattle.muni_rule.proofs.SeriesLemmas.{payment-early, payment-last, payments-count, whole_sum-series}
use Rattle.muni_rule.proofs.EnclosedLemmas.{divisor-least, divisor-most}
use Rattle.muni_span.proofs.Quotients.{IsRounded, rounded_plain}
use Rattle.muni_span.proofs.RecipLaws.{IsRecipSpan, recip_span}
use Rattle.muni_span.proofs.SumSteps.{step-below, step-above, step-bound, bound-end, product-width, width-step}
use Rattle.muni_span.proofs.FactorSteps as factor
use Rattle.muni_span.proofs.FactorSteps.{IsDiscount, IsPart, part-is, last-step}
use Rattle.muni_span.specs.Powers.{power_low, power_high}
use Rattle.muni_span.specs.Roots.{root_low, root_high}
use Rattle.muni_multi.specs.LastStep.{discount_low, discount_high, settled_low, settled_high, IsSettled, LastStepEncloses}
use Rattle.muni_multi.specs.Horner.{sum_low, sum_high, horner_ends, IsNarrowSum, SumsAreNarrow}

-- ---- the discount factor
discount-of : (v lo hi : ℕ) → IsRecipSpan v lo hi → IsRounded v (2000000 * 2 ^ 60) (2000000 * 2 ^ 60) lo hi → IsDiscount v lo hi
discount-of v lo hi span round = record {
  below = round.floor_under;
  above = round.ceiling_over;
  ordered = span.ordered;
  narrow = span.narrow;
  at_least = span.at_least;
  at_most = span.at_most;
}

pub discount-is : (y : ℤ) → IsManyPeriodsBoundary y → IsDiscount (discount_divisor y) (discount_low y) (discount_high y)
discount-is y within =
    let least = divisor-least y within in
    let most = divisor-most y within in
    discount-of (discount_divisor y) (discount_low y) (discount_high y)
    (recip_span (discount_divisor y) (discount_low y) (discount_high y) least most refl refl)
    (rounded_plain (discount_divisor y) (2000000 * 2 ^ 60) (2000000 * 2 ^ 60) (discount_low y) (discount_high y) (omega (arith, least)) refl refl)

-- ---- the payments
pay-late : (series : PaymentSeries) (j : ℕ) → IsSeries series → series.skip < j → j + 1 < series.n → payment_at series j ≤ 5400000000000
pay-late series j is later early =
    let place : interest_at_place series.skip series.first series.regular j ≡ series.regular = grind (arith, nat_tests) in
    let payment = payment-early series j is.skip early in
    let most = is.regular in
    omega (arith, payment, place, most)

pay-last : (series : PaymentSeries) (j : ℕ) → IsSeries series → series.skip < j → j + 1 ≡ series.n → payment_at series j ≤ 77400000000000
pay-last series j is later last =
    let place : interest_at_place series.skip series.first series.regular j ≡ series.regular = grind (arith, nat_tests) in
    let payment = payment-last series j is.skip last in
    let most = is.regular in
    let redemption = is.redemption_to in
    omega (arith, payment, place, most, redemption)

pay-first : (series : PaymentSeries) (j : ℕ) → IsSeries series → series.skip ≡ j → j + 1 < series.n → payment_at series j ≤ 10800000000000
pay-first series j is here early =
    let place : interest_at_place series.skip series.first series.regular j ≡ series.first = grind (arith, nat_tests) in
    let payment = payment-early series j is.skip early in
    let most = is.first in
    omega (arith, payment, place, most)

pay-only : (series : PaymentSeries) (j : ℕ) → IsSeries series → series.skip ≡ j → j + 1 ≡ series.n → payment_at series j ≤ 82800000000000
pay-only series j is here last =
    let place : interest_at_place series.skip series.first series.regular j ≡ series.first = grind (arith, nat_tests) in
    let payment = payment-last series j is.skip last in
    let most = is.first in
    let redemption = is.redemption_to in
    omega (arith, payment, place, most, redemption)

pay-none : (series : PaymentSeries) (j : ℕ) → IsSeries series → j < series.skip → j + 1 < series.n → payment_at series j ≡ 0
pay-none series j is sooner early =
    let place : interest_at_place series.skip series.first series.regular j ≡ 0 = grind (arith, nat_tests) in
    let payment = payment-early series j is.skip early in
    payment ∙ place

-- ---- the steps of the sum
pub sum_low-more : (a : ℕ → ℕ) (r m j : ℕ) → sum_low a r (suc m) j ≡ sum_low a r m (suc j) * r / 2 ^ 60 + 4096 * a j
unfolding sum_low
sum_low-more a r m j = refl

pub sum_high-more : (a : ℕ → ℕ) (r m j : ℕ) → sum_high a r (suc m) j ≡ (sum_high a r m (suc j) * r + (2 ^ 60 - 1)) / 2 ^ 60 + 4096 * a j
unfolding sum_high
sum_high-more a r m j = refl

pub sum_low-one : (a : ℕ → ℕ) (r j : ℕ) → sum_low a r 1 j ≡ 4096 * a j
unfolding sum_low
sum_low-one a r j = omega arith

pub sum_high-one : (a : ℕ → ℕ) (r j : ℕ) → sum_high a r 1 j ≡ 4096 * a j
unfolding sum_high
sum_high-one a r j = omega arith

-- What is known of the ends of a sum t / v^m. Each step multiplies them by at most 1.0257: an upper
-- end with a reserve for regular payments is at most z times these factors, and a width with a
-- reserve for roundings at most 701 times.
record IsSum (z t v m lo hi : ℕ) : Type 0 where
  below : lo * v ^ m ≤ 4096 * t
  above : 4096 * t ≤ hi * v ^ m
  bound : (hi + 860700000000000000) * 10000 ^ m ≤ z * 10257 ^ m
  narrow : (hi - lo + 701) * 10000 ^ m ≤ 701 * 10257 ^ m
  ordered : lo ≤ hi

-- z where the first payment is still to be added to the sum, and where it is in it
abbrev late_bound : ℕ
late_bound = 1177730400000000000

abbrev early_bound : ℕ
early_bound = 1199848800000000000

below_limit : (z m hi : ℕ) → z ≤ early_bound → m ≤ 99 → (hi + 860700000000000000) * 10000 ^ m ≤ z * 10257 ^ m → hi < 2 ^ 64
below_limit z m hi less few bound =
    let wider : z * 10257 ^ m ≤ early_bound * 10257 ^ m = mul-le-mul_right (10257 ^ m) less in
    let top : hi + 860700000000000000 ≤ 2 ^ 64 - 1 + 860700000000000000
    = bound-end 10000 10257 early_bound (2 ^ 64 - 1 + 860700000000000000) (hi + 860700000000000000) m 99 (lit< tt) (lit≤ tt) few (omega (arith, bound, wider)) (lit≤ tt) in
    omega arith

narrow_end : (m lo hi : ℕ) → m ≤ 99 → (hi - lo + 701) * 10000 ^ m ≤ 701 * 10257 ^ m → hi ≤ lo + 8200
narrow_end m lo hi few narrow =
    let top : hi - lo + 701 ≤ 8200 + 701 = bound-end 10000 10257 701 (8200 + 701) (hi - lo + 701) m 99 (lit< tt) (lit≤ tt) few narrow (lit≤ tt) in
    omega arith

one-sum : (z t v p lo hi : ℕ) → 4096 * p + 860700000000000000 ≤ z → t ≡ p → lo ≡ 4096 * p → hi ≡ 4096 * p → IsSum z t v 0 lo hi
one-sum z t v p lo hi small is low high =
    let none : hi - lo ≡ 0 = omega arith in
    record {
      below = rw (pow-zero v, is, low) (omega arith);
      above = rw (pow-zero v, is, high) (omega arith);
      bound = rw (pow-zero 10000, pow-zero 10257, high) (omega arith);
      narrow = rw (pow-zero 10000, pow-zero 10257, none) (omega arith);
      ordered = omega arith;
    }

add-gap : (a b c : ℕ) → (a + c) - (b + c) ≡ a - b
add-gap a b c = omega arith

rounded-order : (lo hi r s l h : ℕ) → lo ≤ hi → r ≤ s → l * 2 ^ 60 ≤ lo * r → hi * s ≤ h * 2 ^ 60 → l ≤ h
rounded-order lo hi r s l h order factors floor ceiling =
    let product : lo * r ≤ hi * s = mul-le-mul order factors in
    let all : l * 2 ^ 60 ≤ h * 2 ^ 60 = omega arith in
    le_of_mul-le-mul_right all (lit< tt)

-- a payment of which q is within the reserve, and e above it
bound-more : (z e m hi s p q h hi' : ℕ) → 10000 * s ≤ 10257 * 2 ^ 60 → 4096 * p ≤ q + e → q ≤ 22118400000000000 → h * 2 ^ 60 ≤ hi * s + 2 ^ 60 → hi' ≡ h + 4096 * p → (hi + 860700000000000000) * 10000 ^ m ≤ z * 10257 ^ m → (hi' + 860700000000000000) * (10000 ^ m * 10000) ≤ (z + e) * (10257 ^ m * 10257)
bound-more z e m hi s p q h hi' growth payment within ceiling is so_far =
    let one = step-bound (2 ^ 60) 10000 10257 z hi s h q 860700000000000000 (10000 ^ m) (10257 ^ m) (lit< tt) growth ceiling (omega arith) so_far in
    let powers : 10000 ^ m ≤ 10257 ^ m = pow-le-pow_left (lit≤ tt) m in
    let more : e * (10000 ^ m * 10000) ≤ e * (10257 ^ m * 10257) = mul-le-mul_left e (mul-le-mul powers (lit≤ tt)) in
    let top : (hi' + 860700000000000000) * (10000 ^ m * 10000) ≤ (h + q + 860700000000000000 + e) * (10000 ^ m * 10000) = mul-le-mul_right (10000 ^ m * 10000) (omega (arith, is)) in
    omega (arith, one, more, top)

next-sum : (z e t t' v m p q lo hi r s l h lo' hi' : ℕ) → hi < 2 ^ 64 → 4096 * p ≤ q + e → q ≤ 22118400000000000 → IsDiscount v r s → t' ≡ p * v ^ suc m + 2000000 * t → IsRounded (2 ^ 60) (lo * r) (hi * s) l h → lo' ≡ l + 4096 * p → hi' ≡ h + 4096 * p → IsSum z t v m lo hi → IsSum (z + e) t' v (suc m) lo' hi'
next-sum z e t t' v m p q lo hi r s l h lo' hi' top payment within discount is round low high so_far =
    let power : v ^ suc m ≡ v ^ m * v = pow-suc v m in
    let tail : t' ≡ p * (v ^ m * v) + 2000000 * t = is ∙ ap (λ x. p * x + 2000000 * t) power in
    let gap : hi' - lo' ≡ h - l = rw (low, high) (add-gap h l (4096 * p)) in
    let growth : 10000 * r ≤ 10257 * 2 ^ 60 = (let order = discount.ordered in let most = discount.at_most in omega (arith, order, most)) in
    let width = product-width (2 ^ 60) lo hi r s l h 16 1 (omega arith) discount.narrow so_far.ordered (let near = round.ceiling_near in omega (arith, near)) round.floor_near in
    let wide : h * 2 ^ 60 ≤ l * 2 ^ 60 + 18 * 2 ^ 60 + r * (hi - lo) = omega (arith, width) in
    let order : l ≤ h = rounded-order lo hi r s l h so_far.ordered discount.ordered round.floor_under round.ceiling_over in
    record {
      below = rw (power, tail, low) (step-below (2 ^ 60) v 2000000 4096 lo r l (v ^ m) p t (lit< tt) round.floor_under discount.below so_far.below);
      above = rw (power, tail, high) (step-above (2 ^ 60) v 2000000 4096 hi s h (v ^ m) p t (lit< tt) round.ceiling_over discount.above so_far.above);
      bound = rw (pow-suc 10000 m, pow-suc 10257 m) (bound-more z e m hi s p q h hi' discount.at_most payment within (let near = round.ceiling_near in omega (arith, near)) high so_far.bound);
      narrow = rw (pow-suc 10000 m, pow-suc 10257 m, gap) (width-step 10000 10257 701 lo hi l h 701 (2 ^ 60) r 18 (10000 ^ m) (10257 ^ m) (lit< tt) growth wide (lit≤ tt) so_far.narrow);
      ordered = omega (arith, order, low, high);
    }

sum-more : (series : PaymentSeries) (z e v r s m j q : ℕ) → z ≤ early_bound → m < 99 → IsDiscount v r s → 4096 * payment_at series j ≤ q + e → q ≤ 22118400000000000
    → IsSum z (tail_sum (payment_at series) 2000000 v (suc m) (suc j)) v m (sum_low (payment_at series) r (suc m) (suc j)) (sum_high (payment_at series) s (suc m) (suc j))
    → IsSum (z + e) (tail_sum (payment_at series) 2000000 v (suc (suc m)) j) v (suc m) (sum_low (payment_at series) r (suc (suc m)) j) (sum_high (payment_at series) s (suc (suc m)) j)
sum-more series z e v r s m j q less few discount payment within so_far =
    let lo = sum_low (payment_at series) r (suc m) (suc j) in
    let hi = sum_high (payment_at series) s (suc m) (suc j) in
    next-sum z e (tail_sum (payment_at series) 2000000 v (suc m) (suc j)) (tail_sum (payment_at series) 2000000 v (suc (suc m)) j) v m (payment_at series j) q lo hi r s
    (lo * r / 2 ^ 60) ((hi * s + (2 ^ 60 - 1)) / 2 ^ 60) (sum_low (payment_at series) r (suc (suc m)) j) (sum_high (payment_at series) s (suc (suc m)) j)
    (below_limit z m hi less (omega arith) so_far.bound) payment within discount (tail_sum-more (payment_at series) 2000000 v (suc m) j)
    (rounded_plain (2 ^ 60) (lo * r) (hi * s) (lo * r / 2 ^ 60) ((hi * s + (2 ^ 60 - 1)) / 2 ^ 60) (lit< tt) refl refl)
    (sum_low-more (payment_at series) r (suc m) j) (sum_high-more (payment_at series) s (suc m) j) so_far

sum-one : (series : PaymentSeries) (z v r s j : ℕ) → 4096 * payment_at series j + 860700000000000000 ≤ z → IsSum z (tail_sum (payment_at series) 2000000 v 1 j) v 0 (sum_low (payment_at series) r 1 j) (sum_high (payment_at series) s 1 j)
sum-one series z v r s j small =
    one-sum z (tail_sum (payment_at series) 2000000 v 1 j) v (payment_at series j) (sum_low (payment_at series) r 1 j) (sum_high (payment_at series) s 1 j) small
    (tail_sum-one (payment_at series) 2000000 v j) (sum_low-one (payment_at series) r j) (sum_high-one (payment_at series) s j)

no-more : (z t v m lo hi : ℕ) → IsSum (z + 0) t v m lo hi → IsSum z t v m lo hi
no-more z t v m lo hi sum = subst (λ x. IsSum x t v m lo hi) (omega arith) sum

-- the sum of payments after the first with interest
late-sum : (series : PaymentSeries) (v r s : ℕ) → IsSeries series → IsDiscount v r s → (m j : ℕ) → j + suc m ≡ series.n → series.skip < j → IsSum late_bound (tail_sum (payment_at series) 2000000 v (suc m) j) v m (sum_low (payment_at series) r (suc m) j) (sum_high (payment_at series) s (suc m) j)
late-sum series v r s is discount zero j end later =
    let payment = pay-last series j is later (omega arith) in
    sum-one series late_bound v r s j (omega (arith, payment))
late-sum series v r s is discount (suc m) j end later =
    let few = is.n_to in
    let payment = pay-late series j is later (omega arith) in
    no-more late_bound (tail_sum (payment_at series) 2000000 v (suc (suc m)) j) v (suc m) (sum_low (payment_at series) r (suc (suc m)) j) (sum_high (payment_at series) s (suc (suc m)) j)
    (sum-more series late_bound 0 v r s m j (4096 * payment_at series j) (lit≤ tt) (omega arith) discount (omega arith) (omega (arith, payment)) (late-sum series v r s is discount m (suc j) (omega arith) (omega arith)))

-- and the sum of payments with it, and with those of 0 before it
early-sum : (series : PaymentSeries) (v r s : ℕ) → IsSeries series → IsDiscount v r s → (m j : ℕ) → j + suc m ≡ series.n → j ≤ series.skip → IsSum early_bound (tail_sum (payment_at series) 2000000 v (suc m) j) v m (sum_low (payment_at series) r (suc m) j) (sum_high (payment_at series) s (suc m) j)
early-sum series v r s is discount zero j end sooner =
    let skip = is.skip in
    let payment = pay-only series j is (omega arith) (omega arith) in
    sum-one series early_bound v r s j (omega (arith, payment))
early-sum series v r s is discount (suc m) j end sooner =
    let few = is.n_to in
    ⊎_elim
    (λ before. let payment = pay-none series j is before (omega arith) in
    no-more early_bound (tail_sum (payment_at series) 2000000 v (suc (suc m)) j) v (suc m) (sum_low (payment_at series) r (suc (suc m)) j) (sum_high (payment_at series) s (suc (suc m)) j)
    (sum-more series early_bound 0 v r s m j 0 (lit≤ tt) (omega arith) discount (omega (arith, payment)) (lit≤ tt) (early-sum series v r s is discount m (suc j) (omega arith) (omega arith))))
    (λ here. let payment = pay-first series j is (omega arith) (omega arith) in
    sum-more series late_bound 22118400000000000 v r s m j 22118400000000000 (lit≤ tt) (omega arith) discount (omega (arith, payment)) (lit≤ tt) (late-sum series v r s is discount m (suc j) (omega arith) (omega arith)))
    (cases_lt j series.skip)

any-sum : (series : PaymentSeries) (v r s : ℕ) → IsSeries series → IsDiscount v r s → (m j : ℕ) → j + suc m ≡ series.n → sum_high (payment_at series) s (suc m) j < 2 ^ 64
any-sum series v r s is discount m j end =
    let few = is.n_to in
    ⊎_elim
    (λ later. below_limit late_bound m (sum_high (payment_at series) s (suc m) j) (lit≤ tt) (omega arith) (late-sum series v r s is discount m j end later).bound)
    (λ sooner. below_limit early_bound m (sum_high (payment_at series) s (suc m) j) (lit≤ tt) (omega arith) (early-sum series v r s is discount m j end sooner).bound)
    (cases_lt series.skip j)

-- no sum of payments up to the last is too large
pub sum-fits : (series : PaymentSeries) (y : ℤ) (k : ℕ) → IsSeries series → IsManyPeriodsBoundary y → k < series.n → sum_high (payment_at series) (discount_high y) (series.n - k) k < 2 ^ 64
sum-fits series y k is within less =
    let count : suc (series.n - k - 1) ≡ series.n - k = omega arith in
    subst (λ m. sum_high (payment_at series) (discount_high y) m k < 2 ^ 64) count
    (any-sum series (discount_divisor y) (discount_low y) (discount_high y) is (discount-is y within) (series.n - k - 1) k (omega arith))

narrow-sum : (series : PaymentSeries) (y : ℤ) (lo hi : ℕ) → IsSeries series → IsSum early_bound (tail_sum (payment_at series) 2000000 (discount_divisor y) series.n 0) (discount_divisor y) (series.n - 1) lo hi → IsNarrowSum series y lo hi
narrow-sum series y lo hi is sum =
    let few = is.n_to in
    let worth : tail_sum (payment_at series) 2000000 (discount_divisor y) series.n 0 ≡ whole_sum (to_come series) y = tail_sum-all (payment_at series) 2000000 (discount_divisor y) series.n ∙ sym (whole_sum-series series y is.skip) in
    let count : series.n ≡ length (payments_of series) = sym (payments-count series is.skip) in
    record {
      holds = record {
        below = subst (λ t. lo * discount_divisor y ^ (length (payments_of series) - 1) ≤ 4096 * t) worth (subst (λ n. lo * discount_divisor y ^ (n - 1) ≤ 4096 * tail_sum (payment_at series) 2000000 (discount_divisor y) series.n 0) count sum.below);
        above = subst (λ t. 4096 * t ≤ hi * discount_divisor y ^ (length (payments_of series) - 1)) worth (subst (λ n. 4096 * tail_sum (payment_at series) 2000000 (discount_divisor y) series.n 0 ≤ hi * discount_divisor y ^ (n - 1)) count sum.above);
      };
      ordered = sum.ordered;
      below_limit = below_limit early_bound (series.n - 1) hi (lit≤ tt) (omega arith) sum.bound;
      narrow = narrow_end (series.n - 1) lo hi (omega arith) sum.narrow;
    }

pub sums-narrow : SumsAreNarrow
sums-narrow series y is within =
    let some = is.n_from in
    let count : suc (series.n - 1) ≡ series.n = omega arith in
    narrow-sum series y (sum_low (payment_at series) (discount_low y) series.n 0) (sum_high (payment_at series) (discount_high y) series.n 0) is
    (subst (λ n. IsSum early_bound (tail_sum (payment_at series) 2000000 (discount_divisor y) n 0) (discount_divisor y) (series.n - 1) (sum_low (payment_at series) (discount_low y) n 0) (sum_high (payment_at series) (discount_high y) n 0)) count
    (early-sum series (discount_divisor y) (discount_low y) (discount_high y) is (discount-is y within) (series.n - 1) 0 (omega arith) (omega arith)))

-- and their upper ends are well below that limit
pub sums-limit : (series : PaymentSeries) (y : ℤ) → IsSeries series → IsManyPeriodsBoundary y → sum_high (payment_at series) (discount_high y) series.n 0 ≤ 14000000000000000000
sums-limit series y is within =
    let some = is.n_from in
    let few = is.n_to in
    let count : suc (series.n - 1) ≡ series.n = omega arith in
    let sum = early-sum series (discount_divisor y) (discount_low y) (discount_high y) is (discount-is y within) (series.n - 1) 0 (omega arith) (omega arith) in
    let hi = sum_high (payment_at series) (discount_high y) (suc (series.n - 1)) 0 in
    let top : hi + 860700000000000000 ≤ 14000000000000000000 + 860700000000000000
    = bound-end 10000 10257 early_bound (14000000000000000000 + 860700000000000000) (hi + 860700000000000000) (series.n - 1) 99 (lit< tt) (lit≤ tt) (omega arith) sum.bound (lit≤ tt) in
    subst (λ n. sum_high (payment_at series) (discount_high y) n 0 ≤ 14000000000000000000) count (omega arith)

-- ---- the last step
settled-of : (series : PaymentSeries) (y : ℤ) (lo hi : ℕ) → factor.IsSettled (discount_divisor y) (whole_sum (to_come series) y) (length (payments_of series) - 1) (180 - series.a) lo hi → IsSettled series y lo hi
settled-of series y lo hi settled = record {
  holds = record { some = lit< tt; below = settled.below; above = settled.above };
  narrow = settled.narrow;
}

pub last_step-encloses : LastStepEncloses
last_step-encloses series y lo hi is within sum order limit narrow =
    let discount = discount-is y within in
    let part = part-is (discount_divisor y) (discount_low y) (discount_high y) (180 - series.a) discount (omega arith) in
    let low = power_low (root_low (discount_low y)) (180 - series.a) in
    let high = power_high (root_high (discount_high y)) (180 - series.a) in
    let round = rounded_plain (2 ^ 60) (lo * low) (hi * high) (settled_low lo y series.a) (settled_high hi y series.a) (lit< tt) refl refl in
    settled-of series y (settled_low lo y series.a) (settled_high hi y series.a)
    (last-step (discount_divisor y) (180 - series.a) (whole_sum (to_come series) y) (length (payments_of series) - 1) lo hi low high (settled_low lo y series.a) (settled_high hi y series.a) part sum.below sum.above order limit narrow
    round.floor_under round.floor_near round.ceiling_over (let near = round.ceiling_near in omega (arith, near)))

-- ---- both laws
horner-settled : (series : PaymentSeries) (y : ℤ) → IsSeries series → IsManyPeriodsBoundary y → HoldsWorth (to_come series) y (horner_ends series y) × IsNarrow (horner_ends series y)
unfolding horner_ends
horner-settled series y is within =
    let sum = sums-narrow series y is within in
    let narrow = sum.narrow in
    let settled = last_step-encloses series y (sum_low (payment_at series) (discount_low y) series.n 0) (sum_high (payment_at series) (discount_high y) series.n 0) is within sum.holds sum.ordered sum.below_limit (omega (arith, narrow)) in
    (settled.holds, settled.narrow)

pub horner-encloses : (series : PaymentSeries) (y : ℤ) → IsSeries series → 2 ≤ series.n → IsManyPeriodsBoundary y → HoldsWorth (to_come series) y (horner_ends series y)
horner-encloses series y is many within = (horner-settled series y is within).0

pub horner-narrow : (series : PaymentSeries) (y : ℤ) → IsSeries series → 2 ≤ series.n → IsManyPeriodsBoundary y → IsNarrow (horner_ends series y)
horner-narrow series y is many within = (horner-settled series y is within).1
