-- One payment that is compounded: its worth, its printed price, and what verdicts say of its printed yield.
use Rattle.std.proofs.Common.{◌≡◌, ℕ, zero, suc, ◌+◌, ◌-◌, ◌*◌, ◌/◌, ◌^◌, ◌<◌, ◌≤◌, refl, sym, ap, ◌∙◌, subst, arith, lit<, ◌⊎◌, ℤ, pos, negsuc, inl, inr, Some, None}
use Rattle.std.specs.Prelude.{◌+ℤ◌, ◌≤ℤ◌, ◌<ℤ◌, unsigned_abs}
use Rattle.std.proofs.lemmas.Bool.{cases_lt}
use Rattle.std.proofs.lemmas.Int.{ints}
use Rattle.std.proofs.Math.Nat.{mul-le-mul_left, le_of_mul-le-mul_right, pow-zero}
use Rattle.muni_rule.specs.ManyPeriods.{discount_divisor, sum_to, discounted_sum, whole_sum}
use Rattle.muni_rule.specs.PrintedYield.{boundary}
use Rattle.muni_rule.specs.Ranges.{IsManyPeriodsBoundary}
use Rattle.muni_rule.specs.Verdicts.{at_least_verdict, more_verdict}
use Rattle.muni_rule.specs.WorthEnds.{WorthEnds, HoldsWorth, IsNarrow, enclosure_ends}
use Rattle.muni_rule.specs.declared.verdict.Verdict.{Verdict}
use Rattle.muni_rule.specs.declared.verdict.Verdict.TheVariants.{Yes, No, Unsure}
use Rattle.muni_rule.proofs.EnclosedLemmas.{divisor-least}
use Rattle.muni_rule.proofs.VerdictLemmas.{reached-by, not_reached, near, at_least-yes, at_least-no, unsure-near, more-yes, more-no, unsure-near_more}
use Rattle.muni_span.specs.Powers.{power_low, power_high}
use Rattle.muni_span.specs.Roots.{root_low, root_high}
use Rattle.muni_span.proofs.FactorSteps.{part-is, last-step}
use Rattle.muni_span.proofs.Quotients.{rounded_plain}
use Rattle.muni_simple.specs.declared.single.Single.{Single}
use Rattle.muni_multi.specs.HornerLaws.{discount-is}
use Rattle.muni_multi.specs.LastStep.{discount_low, discount_high, part_low, part_high}
use Rattle.muni_yield.specs.Places.{yield_at, reached_verdict}
use Rattle.muni_readings.specs.Compounded.{compounded, IsCompoundedPrice, IsCompoundedYield, TellsYield}

-- ---- the worth
sum-one : (due v : ℕ) (payment : ℕ → ℕ) → payment 0 ≡ due → discounted_sum payment 2000000 v 1 ≡ due
unfolding discounted_sum sum_to
sum-one due v payment first =
    let power : v ^ 0 ≡ 1 = pow-zero v in
    let one : 0 + payment 0 * 1 * v ^ 0 ≡ due = rw power (omega (arith, first)) in
    one

sum-compounded : (payment : Single) (y : ℤ) → whole_sum (compounded payment) y ≡ unsigned_abs payment.due
sum-compounded payment y = sum-one (unsigned_abs payment.due) (discount_divisor y) _ refl

-- its ends hold it, are near, and are not large
pub record HasWorth (payment : Single) (y : ℤ) (lo hi : ℕ) : Type 0 where
  pub holds : HoldsWorth (compounded payment) y (enclosure_ends lo hi)
  pub narrow : IsNarrow (enclosure_ends lo hi)
  pub small : hi ≤ 8000000000000000000

worth-small : (s p l h : ℕ) → s ≤ 4096 * 10 ^ 15 → 4 * p ≤ 5 * 2 ^ 60 → l * 2 ^ 60 ≤ s * p → h < l + 360 * 4096 → h ≤ 8000000000000000000
worth-small s p l h few low floor narrow =
    let most : s * (4 * p) ≤ s * (5 * 2 ^ 60) = mul-le-mul_left s low in
    let times : 4 * l * 2 ^ 60 ≤ 5 * s * 2 ^ 60 = omega arith in
    let all : 4 * l ≤ 5 * s = le_of_mul-le-mul_right times (lit< tt) in
    omega arith

pub has-worth : (payment : Single) (y : ℤ) (lo hi : ℕ) → unsigned_abs payment.due ≤ 10 ^ 15 → IsManyPeriodsBoundary y
    → lo ≡ 4096 * unsigned_abs payment.due * part_low y (compounded payment).a / 2 ^ 60
    → hi ≡ (4096 * unsigned_abs payment.due * part_high y (compounded payment).a + (2 ^ 60 - 1)) / 2 ^ 60
    → HasWorth payment y lo hi
has-worth payment y lo hi few within low_is high_is =
    let due = unsigned_abs payment.due in
    let e = 180 - (compounded payment).a in
    let v = discount_divisor y in
    let low = power_low (root_low (discount_low y)) e in
    let high = power_high (root_high (discount_high y)) e in
    let part = part-is v (discount_low y) (discount_high y) e (discount-is y within) (omega arith) in
    let round = rounded_plain (2 ^ 60) (4096 * due * low) (4096 * due * high) lo hi (lit< tt) low_is high_is in
    let whole : whole_sum (compounded payment) y ≡ due = sum-compounded payment y in
    let under : 4096 * due * v ^ 0 ≤ 4096 * whole_sum (compounded payment) y = rw (whole, pow-zero v) (omega arith) in
    let over : 4096 * whole_sum (compounded payment) y ≤ 4096 * due * v ^ 0 = rw (whole, pow-zero v) (omega arith) in
    let settled = last-step v e (whole_sum (compounded payment) y) 0 (4096 * due) (4096 * due) low high lo hi part under over (omega arith) (omega arith) (omega arith)
    round.floor_under round.floor_near round.ceiling_over (let near = round.ceiling_near in omega (arith, near)) in
    record {
      holds = record { some = lit< tt; below = settled.below; above = settled.above };
      narrow = settled.narrow;
      small = worth-small (4096 * due) low lo hi (omega arith) part.low round.floor_under settled.narrow;
    }

-- the same of a yield that is known by another name
pub worth-at : (payment : Single) (y z : ℤ) (lo hi : ℕ) → z ≡ y → HoldsWorth (compounded payment) z (enclosure_ends lo hi) → IsNarrow (enclosure_ends lo hi) → hi ≤ 8000000000000000000 → HasWorth payment y lo hi
worth-at payment y z lo hi same holds narrow small =
    record { holds = subst (λ it. HoldsWorth (compounded payment) it (enclosure_ends lo hi)) same holds; narrow = narrow; small = small }

-- ---- the price
some-divisor : (y : ℤ) → IsManyPeriodsBoundary y → 0 < discount_divisor y
some-divisor y within = let least = divisor-least y within in omega arith

pub price-some : (payment : Single) (y : ℤ) (lo hi accrued t : ℕ) → IsManyPeriodsBoundary y → HasWorth payment y lo hi → accrued ≡ unsigned_abs payment.accrued
    → accrued ≤ lo / 4096 → t ≡ (lo / 4096 - accrued) / 360000000 → hi < (360000000 * (t + 1) + accrued) * 4096
    → IsCompoundedPrice payment y (Some t)
price-some payment y lo hi accrued t within worth is least reached next = record {
  reached = reached-by (compounded payment) y (enclosure_ends lo hi) (360000000 * t + unsigned_abs payment.accrued) worth.holds (omega arith);
  next_not_reached = not_reached (compounded payment) y (enclosure_ends lo hi) (360000000 * (t + 1) + unsigned_abs payment.accrued) (some-divisor y within) worth.holds (omega arith);
}

pub price-near : (payment : Single) (y : ℤ) (lo hi accrued t : ℕ) → IsManyPeriodsBoundary y → HasWorth payment y lo hi → accrued ≡ unsigned_abs payment.accrued
    → lo ≤ (360000000 * t + accrued) * 4096 → (360000000 * t + accrued) * 4096 ≤ hi
    → IsCompoundedPrice payment y None
price-near payment y lo hi accrued t within worth is low high =
    inr (t, near (compounded payment) y (enclosure_ends lo hi) (360000000 * t) (some-divisor y within) worth.holds worth.narrow (omega arith) (omega arith))

below-or-near : (payment : Single) (y : ℤ) (lo hi accrued : ℕ) → IsManyPeriodsBoundary y → HasWorth payment y lo hi → accrued ≡ unsigned_abs payment.accrued
    → lo ≤ accrued * 4096 → (hi < accrued * 4096) ⊎ (accrued * 4096 ≤ hi) → IsCompoundedPrice payment y None
below-or-near payment y lo hi accrued within worth is low (inl below) =
    inl (record { zero_not_reached = not_reached (compounded payment) y (enclosure_ends lo hi) (0 + unsigned_abs payment.accrued) (some-divisor y within) worth.holds (omega arith) })
below-or-near payment y lo hi accrued within worth is low (inr high) =
    price-near payment y lo hi accrued 0 within worth is (omega arith) (omega arith)

pub price-below : (payment : Single) (y : ℤ) (lo hi accrued : ℕ) → IsManyPeriodsBoundary y → HasWorth payment y lo hi → accrued ≡ unsigned_abs payment.accrued
    → lo / 4096 < accrued → IsCompoundedPrice payment y None
price-below payment y lo hi accrued within worth is less =
    below-or-near payment y lo hi accrued within worth is (omega arith) (cases_lt hi (accrued * 4096))

-- ---- the yield
verdict-above : (ends : ℤ → WorthEnds) (amount : ℕ) (t : ℤ) → pos 0 <ℤ t → reached_verdict ends amount t ≡ at_least_verdict (ends (boundary t)) amount
verdict-above ends amount (pos zero) above = absurd (omega (arith, ints))
verdict-above ends amount (pos (suc less)) above = refl
verdict-above ends amount (negsuc less) above = absurd (omega (arith, ints))

verdict-below : (ends : ℤ → WorthEnds) (amount : ℕ) (t : ℤ) → t ≤ℤ pos 0 → reached_verdict ends amount t ≡ more_verdict (ends (boundary t)) amount
verdict-below ends amount (pos zero) below = refl
verdict-below ends amount (pos (suc less)) below = absurd (omega (arith, ints))
verdict-below ends amount (negsuc less) below = refl

tells : (payment : Single) (ends : WorthEnds) (price : ℕ) (t : ℤ) (verdict : Verdict) → 0 < discount_divisor (boundary t) → HoldsWorth (compounded payment) (boundary t) ends → IsNarrow ends
    → reached_verdict (λ y. ends) (360000 * price + unsigned_abs payment.accrued) t ≡ verdict → TellsYield payment (pos (360000 * price)) t verdict
tells payment ends price (pos zero) Yes some holds narrow said = more-yes (compounded payment) (boundary (pos zero)) ends (360000 * price + unsigned_abs payment.accrued) some holds said
tells payment ends price (pos zero) No some holds narrow said = more-no (compounded payment) (boundary (pos zero)) ends (360000 * price + unsigned_abs payment.accrued) holds said
tells payment ends price (pos zero) Unsure some holds narrow said = unsure-near_more (compounded payment) (boundary (pos zero)) ends (360000 * price) some holds narrow said
tells payment ends price (pos (suc less)) Yes some holds narrow said = at_least-yes (compounded payment) (boundary (pos (suc less))) ends (360000 * price + unsigned_abs payment.accrued) holds said
tells payment ends price (pos (suc less)) No some holds narrow said = at_least-no (compounded payment) (boundary (pos (suc less))) ends (360000 * price + unsigned_abs payment.accrued) some holds said
tells payment ends price (pos (suc less)) Unsure some holds narrow said = unsure-near (compounded payment) (boundary (pos (suc less))) ends (360000 * price) some holds narrow said
tells payment ends price (negsuc less) Yes some holds narrow said = more-yes (compounded payment) (boundary (negsuc less)) ends (360000 * price + unsigned_abs payment.accrued) some holds said
tells payment ends price (negsuc less) No some holds narrow said = more-no (compounded payment) (boundary (negsuc less)) ends (360000 * price + unsigned_abs payment.accrued) holds said
tells payment ends price (negsuc less) Unsure some holds narrow said = unsure-near_more (compounded payment) (boundary (negsuc less)) ends (360000 * price) some holds narrow said

pub place-above : (payment : Single) (price place : ℕ) (y : ℤ) (lo hi amount : ℕ) (verdict : Verdict) → 5001 < place → y ≡ boundary (yield_at place) → IsManyPeriodsBoundary y → HasWorth payment y lo hi
    → amount ≡ 360000 * price + unsigned_abs payment.accrued → verdict ≡ at_least_verdict (enclosure_ends lo hi) amount → TellsYield payment (pos (360000 * price)) (yield_at place) verdict
place-above payment price place y lo hi amount verdict above at within worth is said =
    let ends = enclosure_ends lo hi in
    let t = yield_at place in
    tells payment ends price t verdict (subst (λ z. 0 < discount_divisor z) at (some-divisor y within)) (subst (λ z. HoldsWorth (compounded payment) z ends) at worth.holds) worth.narrow
    (verdict-above (λ z. ends) (360000 * price + unsigned_abs payment.accrued) t (omega (arith, ints)) ∙ sym (said ∙ ap (at_least_verdict ends) is))

pub place-below : (payment : Single) (price place : ℕ) (y : ℤ) (lo hi amount : ℕ) (verdict : Verdict) → place ≤ 5001 → y ≡ boundary (yield_at place) → IsManyPeriodsBoundary y → HasWorth payment y lo hi
    → amount ≡ 360000 * price + unsigned_abs payment.accrued → verdict ≡ more_verdict (enclosure_ends lo hi) amount → TellsYield payment (pos (360000 * price)) (yield_at place) verdict
place-below payment price place y lo hi amount verdict below at within worth is said =
    let ends = enclosure_ends lo hi in
    let t = yield_at place in
    tells payment ends price t verdict (subst (λ z. 0 < discount_divisor z) at (some-divisor y within)) (subst (λ z. HoldsWorth (compounded payment) z ends) at worth.holds) worth.narrow
    (verdict-below (λ z. ends) (360000 * price + unsigned_abs payment.accrued) t (omega (arith, ints)) ∙ sym (said ∙ ap (more_verdict ends) is))

-- between two places beside one another the yield is printed
pub yield-printed : (payment : Single) (amount : ℤ) (low high : ℕ) (t : ℤ) → TellsYield payment amount (yield_at 1) Yes → TellsYield payment amount (yield_at 105002) No
    → TellsYield payment amount (yield_at low) Yes → TellsYield payment amount (yield_at high) No → high ≡ low + 1 → t ≡ yield_at low → IsCompoundedYield payment amount (Some t)
yield-printed payment amount low high t least past reached not_reached beside is =
    let next : yield_at high ≡ t +ℤ pos 1 = omega (arith, ints) in
    record {
      not_below = least;
      not_above = past;
      printed = record {
        reached = subst (λ z. TellsYield payment amount z Yes) (sym is) reached;
        next_not_reached = subst (λ z. TellsYield payment amount z No) next not_reached;
      };
    }
