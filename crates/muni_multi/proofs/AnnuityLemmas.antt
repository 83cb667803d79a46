-- An annuity stays below what it is exactly, and so does what payments are worth by it.
use Rattle.std.proofs.Common.{◌≡◌, ℕ, suc, zero, ◌+◌, ◌-◌, ◌*◌, ◌/◌, ◌^◌, ◌<◌, ◌≤◌, sym, ap, ◌∙◌, subst, arith, lit<, ℤ, pos}
use Rattle.std.proofs.Math.Nat.{mul-le-mul, mul-le-mul_left, mul-le-mul_right, le_of_mul-le-mul_right, pow-le-pow_left, pow-zero, one-le-pow}
use Rattle.std.proofs.lemmas.Nat.{mul-pow, pow-add}
use Rattle.muni_rule.specs.Payments.{PaymentSeries, IsSeries, payment_at}
use Rattle.muni_rule.specs.ManyPeriods.{to_come, discount_divisor, whole_sum, asked_power, IsWorthAtLeast}
use Rattle.muni_rule.specs.Ranges.{IsManyPeriodsBoundary}
use Rattle.muni_rule.proofs.PowerLemmas.{pow-one, pow-split, reached-power}
use Rattle.muni_rule.proofs.SeriesLemmas.{whole_sum-series, asked_power-series}
use Rattle.muni_rule.proofs.SumLemmas.{tail_sum, tail_sum-more, tail_sum-none, tail_sum-one, tail_sum-all}
use Rattle.muni_span.proofs.FactorSteps.{part-is}
use Rattle.muni_multi.specs.Annuity.{AnnuityView, IsAnnuity, IsWorthBelow, annuity, ones}
use Rattle.muni_multi.specs.Discount.{Factors}
use Rattle.muni_multi.specs.DoublingLaws.{equal_sum, equal-split, paid_sum, whole-is}
use Rattle.muni_multi.specs.HornerLaws.{discount-is}
use Rattle.muni_multi.specs.LastStep.{discount_low, discount_high, part_low}

-- ---- equal payments
ones-sum : (v m : ℕ) → equal_sum 1 v m ≡ ones v m
ones-sum v m = tail_sum-all (λ _. 1) 2000000 v m

ones-more : (v m : ℕ) → ones v (m + 1) ≡ ones v m * v + 2000000 ^ m
ones-more v m =
    let split = equal-split 1 v m 1 in
    let one : equal_sum 1 v 1 ≡ 1 = tail_sum-one (λ _. 1) 2000000 v 0 in
    let power : v ^ 1 ≡ v = pow-one v in
    let before : equal_sum 1 v m ≡ ones v m = ones-sum v m in
    sym (ones-sum v (m + 1)) ∙ (split ∙ rw (power, one, before) (omega arith))

equal-times : (p v m j : ℕ) → tail_sum (λ _. p) 2000000 v m j ≡ p * tail_sum (λ _. 1) 2000000 v m j
equal-times p v zero j =
    let none = tail_sum-none (λ _. p) 2000000 v j in
    let nothing = tail_sum-none (λ _. 1) 2000000 v j in
    rw (none, nothing) (omega arith)
equal-times p v (suc m) j =
    let all = tail_sum-more (λ _. p) 2000000 v m j in
    let each = tail_sum-more (λ _. 1) 2000000 v m j in
    let rest = equal-times p v m (suc j) in
    rw (all, each, rest) (omega arith)

-- ---- one payment more
power-more : (x m : ℕ) → x ^ (m + 1) ≡ x ^ m * x
power-more x m = pow-add x m 1 ∙ ap (λ y. x ^ m * y) (pow-one x)

last-more : (u v h lo last next vm hm : ℕ) → 0 < u → lo * v ≤ h * u → last * vm ≤ u * hm → next * u ≤ last * lo → next * (vm * v) ≤ u * (hm * h)
last-more u v h lo last next vm hm some discount before floor =
    let one : next * u * (vm * v) ≤ last * lo * (vm * v) = mul-le-mul_right (vm * v) floor in
    let two : last * vm * (lo * v) ≤ u * hm * (h * u) = mul-le-mul before discount in
    let all : next * (vm * v) * u ≤ u * (hm * h) * u = omega arith in
    le_of_mul-le-mul_right all some

worth-more : (v h worth total next vm hm sum : ℕ) → worth * vm ≤ 2 ^ 52 * (h * sum) → next * (vm * v) ≤ 2 ^ 60 * (hm * h) → total * 2 ^ 8 ≤ worth * 2 ^ 8 + next → total * (vm * v) ≤ 2 ^ 52 * (h * (sum * v + hm))
worth-more v h worth total next vm hm sum before last more =
    let one : total * 2 ^ 8 * (vm * v) ≤ (worth * 2 ^ 8 + next) * (vm * v) = mul-le-mul_right (vm * v) more in
    let two : worth * vm * (v * 2 ^ 8) ≤ 2 ^ 52 * (h * sum) * (v * 2 ^ 8) = mul-le-mul_right (v * 2 ^ 8) before in
    let all : total * (vm * v) * 2 ^ 8 ≤ 2 ^ 52 * (h * (sum * v + hm)) * 2 ^ 8 = omega arith in
    le_of_mul-le-mul_right all (lit< tt)

pub grown : (discount : Factors) (count last worth lo next total : ℕ) → IsManyPeriodsBoundary discount.y → lo ≡ discount_low discount.y → IsAnnuity (annuity discount count last worth) → next * 2 ^ 60 ≤ last * lo → total * 2 ^ 8 ≤ worth * 2 ^ 8 + next → IsAnnuity (annuity discount (count + 1) next total)
grown discount count last worth lo next total within low is floor more =
    let v = discount_divisor discount.y in
    let below : lo * v ≤ 2000000 * 2 ^ 60 = subst (λ x. x * v ≤ 2000000 * 2 ^ 60) (sym low) (discount-is discount.y within).below in
    let after : next * (v ^ count * v) ≤ 2 ^ 60 * (2000000 ^ count * 2000000) = last-more (2 ^ 60) v 2000000 lo last next (v ^ count) (2000000 ^ count) (lit< tt) below is.last floor in
    record {
      last = rw (power-more v count, power-more 2000000 count) after;
      worth = rw (power-more v count, ones-more v count) (worth-more v 2000000 worth total next (v ^ count) (2000000 ^ count) (ones v count) is.worth after more);
    }

-- ---- what payments are worth
paid-below : (first regular redemption worth last cut vm hm h sum whole r : ℕ) → worth * vm ≤ 2 ^ 52 * (h * sum) → last * vm ≤ 2 ^ 60 * hm → cut * 2 ^ 8 ≤ last → r * 2 ^ 44 ≤ first * 2 ^ 52 + regular * worth + redemption * cut
    → whole ≡ first * vm + h * (regular * sum) + hm * redemption → r * vm ≤ 256 * whole
paid-below first regular redemption worth last cut vm hm h sum whole r annuity factor floor down is =
    let one : r * 2 ^ 44 * vm ≤ (first * 2 ^ 52 + regular * worth + redemption * cut) * vm = mul-le-mul_right vm down in
    let two : regular * (worth * vm) ≤ regular * (2 ^ 52 * (h * sum)) = mul-le-mul_left regular annuity in
    let three : cut * 2 ^ 8 * vm ≤ last * vm = mul-le-mul_right vm floor in
    let four : cut * vm * 2 ^ 8 ≤ 2 ^ 52 * hm * 2 ^ 8 = omega (arith, three, factor) in
    let five : cut * vm ≤ 2 ^ 52 * hm = le_of_mul-le-mul_right four (lit< tt) in
    let six : redemption * (cut * vm) ≤ redemption * (2 ^ 52 * hm) = mul-le-mul_left redemption five in
    let all : r * vm * 2 ^ 44 ≤ 256 * (first * vm + h * (regular * sum) + hm * redemption) * 2 ^ 44 = omega (arith, one, two, six) in
    let most : r * vm ≤ 256 * (first * vm + h * (regular * sum) + hm * redemption) = le_of_mul-le-mul_right all (lit< tt) in
    subst (λ x. r * vm ≤ 256 * x) (sym is) most

whole-paid : (series : PaymentSeries) (y : ℤ) (m : ℕ) → IsSeries series → series.skip ≡ 0 → m + 1 ≡ series.n → whole_sum (to_come series) y ≡ series.first * discount_divisor y ^ m + 2000000 * (series.regular * ones (discount_divisor y) m) + 2000000 ^ m * series.redemption
whole-paid series y m is none count =
    let v = discount_divisor y in
    let all = whole_sum-series series y is.skip ∙ sym (tail_sum-all (payment_at series) 2000000 v series.n) in
    let paid = whole-is series v m is (omega (arith, none, count)) in
    let one : 2000000 ^ series.skip ≡ 1 = ap (λ k. 2000000 ^ k) none ∙ pow-zero 2000000 in
    let times : equal_sum series.regular v m ≡ series.regular * ones v m = equal-times series.regular v m 0 ∙ ap (λ x. series.regular * x) (ones-sum v m) in
    all ∙ (paid ∙ rw (one, times) (omega arith))

pub worth-below : (series : PaymentSeries) (of : AnnuityView) (cut r : ℕ) → IsSeries series → IsAnnuity of → series.skip ≡ 0 → of.count + 1 ≡ series.n → cut * 2 ^ 8 ≤ of.last → r * 2 ^ 44 ≤ series.first * 2 ^ 52 + series.regular * of.worth + series.redemption * cut → IsWorthBelow series of.discount.y r
worth-below series of cut r is annuity none count floor down =
    let v = discount_divisor of.discount.y in
    let places : series.n - 1 ≡ of.count = omega (arith, count) in
    record {
      below = subst (λ m. r * v ^ m ≤ 256 * whole_sum (to_come series) of.discount.y) (sym places)
          (paid-below series.first series.regular series.redemption of.worth of.last cut (v ^ of.count) (2000000 ^ of.count) 2000000 (ones v of.count) (whole_sum (to_come series) of.discount.y) r
          annuity.worth annuity.last floor down (whole-paid series of.discount.y of.count is none count));
    }

-- ---- what they are worth at the settlement
joined : (uk pk sk fk vmk ve ck tk he : ℕ) → 0 < uk → pk * uk ≤ sk * fk → sk * vmk ≤ ck * tk → fk * ve ≤ he * uk → pk * (vmk * ve) ≤ ck * (tk * he)
joined uk pk sk fk vmk ve ck tk he some product sum factor =
    let one : pk * uk * (vmk * ve) ≤ sk * fk * (vmk * ve) = mul-le-mul_right (vmk * ve) product in
    let two : sk * vmk * (fk * ve) ≤ ck * tk * (he * uk) = mul-le-mul sum factor in
    let all : pk * (vmk * ve) * uk ≤ ck * (tk * he) * uk = omega arith in
    le_of_mul-le-mul_right all some

settled-below : (u v c h k e m s f p t : ℕ) → 0 < u → p * u ≤ s * f → s * v ^ m ≤ c * t → f ^ k * v ^ e ≤ h ^ e * u ^ k → p ^ k * v ^ (m * k + e) ≤ c ^ k * (t ^ k * h ^ e)
settled-below u v c h k e m s f p t some round sum factor =
    let raised : (p * u) ^ k ≤ (s * f) ^ k = pow-le-pow_left round k in
    let product : p ^ k * u ^ k ≤ s ^ k * f ^ k = rw (mul-pow p u k, mul-pow s f k) at raised in
    let summed : (s * v ^ m) ^ k ≤ (c * t) ^ k = pow-le-pow_left sum k in
    let sum' : s ^ k * (v ^ m) ^ k ≤ c ^ k * t ^ k = rw (mul-pow s (v ^ m) k, mul-pow c t k) at summed in
    rw (pow-split v m k e) (joined (u ^ k) (p ^ k) (s ^ k) (f ^ k) ((v ^ m) ^ k) (v ^ e) (c ^ k) (t ^ k) (h ^ e) (one-le-pow k u some) product sum' factor)

pub worth-shown : (series : PaymentSeries) (y : ℤ) (x r low : ℕ) → IsSeries series → IsManyPeriodsBoundary y → low ≡ part_low y series.a → IsWorthBelow series y r → x * 2 ^ 68 ≤ r * low → IsWorthAtLeast (to_come series) y x
worth-shown series y x r low is within part worth shown =
    let v = discount_divisor y in
    let e = 180 - series.a in
    let t = whole_sum (to_come series) y in
    let factor = (part-is v (discount_low y) (discount_high y) e (discount-is y within) (omega arith)).below in
    let product : x * 256 * 2 ^ 60 ≤ r * part_low y series.a = subst (λ f. x * 256 * 2 ^ 60 ≤ r * f) part (omega (arith, shown)) in
    let settled : (x * 256) ^ 180 * v ^ ((series.n - 1) * 180 + e) ≤ 256 ^ 180 * (t ^ 180 * 2000000 ^ e)
    = settled-below (2 ^ 60) v 256 2000000 180 e (series.n - 1) r (part_low y series.a) (x * 256) t (lit< tt) product worth.below factor in
    record {
      at_least = rw (asked_power-series series y x is.skip)
          (reached-power 256 180 x (x * 256) (v ^ ((series.n - 1) * 180 + e)) (t ^ 180 * 2000000 ^ e) (lit< tt) (omega arith) settled);
    }
