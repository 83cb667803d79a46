-- The worth in the exact cases.
use Rattle.std.proofs.Common.{◌≡◌, ℕ, suc, ◌+◌, ◌-◌, ◌*◌, ◌^◌, ◌<◌, ◌≤◌, length, ⊎_elim, refl, sym, ap, ◌∙◌, subst, arith, lit<, true, false, ◌&&◌, ◌||◌}
use Rattle.std.specs.Prelude.{ℤ, nat_eq, nat_le, Option, unwrap_or}
use Rattle.std.proofs.Math.Nat.{le_of_mul-le-mul_left, one-le-pow, pow-suc}
use Rattle.std.proofs.lemmas.Nat.{mul-pow}
use Rattle.std.proofs.lemmas.Bool.{eqb-true, and_parts, or_cases, or_from, cond_both}
use Rattle.std.proofs.lemmas.Bool.Decides.{nat_tests}
use Rattle.muni_rule.specs.Payments.{PaymentSeries, payments_of, payment_at}
use Rattle.muni_rule.specs.PaymentLaws.{interest_at_place}
use Rattle.muni_rule.specs.ManyPeriods.{PeriodicPayments, to_come, discount_divisor, sum_to, discounted_sum, whole_sum, worth_power, asked_power}
use Rattle.muni_rule.specs.ExactCases.{on_interest_date, is_accrued_whole, is_level, yields_par, is_par_bond, is_short, is_exact_case}
use Rattle.muni_rule.specs.WorthEnds.{WorthEnds, HoldsWorth, exactly, more_half_years, short_worth, ends_of}
use Rattle.muni_rule.proofs.PowerLemmas.{pow-one, one-pow, pow-split, fraction-power}
use Rattle.muni_rule.proofs.SumLemmas.{tail_sum, tail_sum-all, zero_sum, level_sum}
use Rattle.muni_rule.proofs.SeriesLemmas.{payment-early, payment-last, payments-count, whole_sum-series, worth_power-series, asked_power-series}

-- the sum over the places of a series
abbrev pub series_sum : PaymentSeries → ℕ → ℕ
series_sum series v = discounted_sum (payment_at series) 2000000 v series.n

pub holds-exactly : (series : PaymentSeries) (y : ℤ) (top unit : ℕ) → series.skip < series.n → 0 < unit → unit ^ 180 * (series_sum series (discount_divisor y) ^ 180 * 2000000 ^ (180 - series.a)) ≡ top ^ 180 * discount_divisor y ^ ((series.n - 1) * 180 + (180 - series.a)) → HoldsWorth (to_come series) y (exactly top unit)
holds-exactly series y top unit skip some same = record {
  some = some;
  below = rw (asked_power-series series y top skip, worth_power-series series y skip) (omega (arith, same));
  above = rw (asked_power-series series y top skip, worth_power-series series y skip) (omega (arith, same));
}

-- a yield of zero
zero-power : (k h t s m e : ℕ) → t ≡ h ^ m * s → 1 ^ k * (t ^ k * h ^ e) ≡ s ^ k * h ^ (m * k + e)
zero-power k h t s m e is =
    let raised : t ^ k ≡ (h ^ m) ^ k * s ^ k = ap (λ x. x ^ k) is ∙ mul-pow (h ^ m) s k in
    rw (one-pow k, raised, pow-split h m k e) (omega arith)

zero-worth : (series : PaymentSeries) (v : ℕ) → 1 ≤ series.n → v ≡ 2000000 → series_sum series v ≡ 2000000 ^ (series.n - 1) * sum_to (payment_at series) series.n
zero-worth series v some is =
    let count : suc (series.n - 1) ≡ series.n = omega arith in
    subst (λ x. discounted_sum (payment_at series) 2000000 x series.n ≡ 2000000 ^ (series.n - 1) * sum_to (payment_at series) series.n) (sym is)
    (subst (λ n. discounted_sum (payment_at series) 2000000 2000000 n ≡ 2000000 ^ (series.n - 1) * sum_to (payment_at series) n) count (zero_sum (payment_at series) 2000000 (series.n - 1)))

pub zero-holds : (series : PaymentSeries) (y : ℤ) → series.skip < series.n → discount_divisor y ≡ 2000000 → HoldsWorth (to_come series) y (exactly (sum_to (payment_at series) series.n) 1)
zero-holds series y skip is =
    let worth = zero-worth series (discount_divisor y) (omega arith) is in
    holds-exactly series y (sum_to (payment_at series) series.n) 1 skip (lit< tt)
    (subst (λ v. 1 ^ 180 * (series_sum series (discount_divisor y) ^ 180 * 2000000 ^ (180 - series.a)) ≡ sum_to (payment_at series) series.n ^ 180 * v ^ ((series.n - 1) * 180 + (180 - series.a))) (sym is)
    (zero-power 180 2000000 (series_sum series (discount_divisor y)) (sum_to (payment_at series) series.n) (series.n - 1) (180 - series.a) worth))

-- an interest date, from which whole half-years are left
pub date-fraction : (bond : PeriodicPayments) (y : ℤ) (i top unit : ℕ) → 0 < unit → 180 - bond.a ≡ i * 180 → whole_sum bond y * 2000000 ^ i * unit ≡ top * discount_divisor y ^ (length bond.payments - 1 + i) → HoldsWorth bond y (exactly top unit)
date-fraction bond y i top unit some whole same =
    let powers : unit ^ 180 * worth_power bond y ≡ asked_power bond y top
    = subst (λ e. unit ^ 180 * (whole_sum bond y ^ 180 * 2000000 ^ e) ≡ top ^ 180 * discount_divisor y ^ ((length bond.payments - 1) * 180 + e)) (sym whole)
    (fraction-power 180 2000000 (discount_divisor y) (whole_sum bond y) (length bond.payments - 1) i top unit same) in
    record { some = some; below = omega (arith, powers); above = omega (arith, powers) }

pub date-holds : (series : PaymentSeries) (y : ℤ) (i top unit : ℕ) → series.skip < series.n → 0 < unit → 180 - series.a ≡ i * 180 → series_sum series (discount_divisor y) * 2000000 ^ i * unit ≡ top * discount_divisor y ^ (series.n - 1 + i) → HoldsWorth (to_come series) y (exactly top unit)
date-holds series y i top unit skip some whole same =
    date-fraction (to_come series) y i top unit some whole
    (subst (λ t. t * 2000000 ^ i * unit ≡ top * discount_divisor y ^ (length (payments_of series) - 1 + i)) (sym (whole_sum-series series y skip))
    (subst (λ n. series_sum series (discount_divisor y) * 2000000 ^ i * unit ≡ top * discount_divisor y ^ (n - 1 + i)) (sym (payments-count series skip)) same))

date-part : (series : PaymentSeries) → on_interest_date series ≡ true → 180 - series.a ≡ more_half_years series * 180
date-part series date = grind (arith, nat_tests)

pub short-holds : (series : PaymentSeries) (y : ℤ) → series.skip < series.n → 0 < discount_divisor y → is_short series ≡ true → HoldsWorth (to_come series) y (short_worth series (discount_divisor y))
short-holds series y skip some short =
    let date = (and_parts (on_interest_date series) (nat_le series.n 3) short).0 in
    date-holds series y (more_half_years series) (series_sum series (discount_divisor y) * 2000000 ^ more_half_years series) (discount_divisor y ^ (series.n - 1 + more_half_years series)) skip
    (one-le-pow (series.n - 1 + more_half_years series) (discount_divisor y) some) (date-part series date) refl

-- a par bond
level-interest : (series : PaymentSeries) (k : ℕ) → is_level series ≡ true → interest_at_place series.skip series.first series.regular k ≡ series.regular
level-interest series k level = grind (arith, nat_tests)

par-sum : (series : PaymentSeries) (v : ℕ) → series.skip < series.n → is_level series ≡ true → (series.regular + series.redemption) * 2000000 ≡ series.redemption * v → series_sum series v * 2000000 ≡ series.redemption * v ^ series.n
par-sum series v skip level par =
    let count : suc (series.n - 1) ≡ series.n = omega arith in
    let last : payment_at series (0 + (series.n - 1)) ≡ series.regular + series.redemption
    = payment-last series (0 + (series.n - 1)) skip (omega arith) ∙ ap (λ x. x + series.redemption) (level-interest series (0 + (series.n - 1)) level) in
    let all : tail_sum (payment_at series) 2000000 v (suc (series.n - 1)) 0 * 2000000 ≡ series.redemption * v ^ suc (series.n - 1)
    = level_sum (payment_at series) series.regular series.redemption 2000000 v (series.n - 1) 0 par (λ k from to. payment-early series k skip (omega arith) ∙ level-interest series k level) last in
    let whole : tail_sum (payment_at series) 2000000 v series.n 0 * 2000000 ≡ series.redemption * v ^ series.n = subst (λ n. tail_sum (payment_at series) 2000000 v n 0 * 2000000 ≡ series.redemption * v ^ n) count all in
    subst (λ t. t * 2000000 ≡ series.redemption * v ^ series.n) (tail_sum-all (payment_at series) 2000000 v series.n) whole

-- on the day that begins half a year
par-begins : (h t r top power : ℕ) → top ≡ r → t * h ≡ r * power → t * h ^ 1 * 1 ≡ top * power
par-begins h t r top power is sum = rw (pow-one h, is) (omega (arith, sum))

-- on the day that ends it
par-ends : (h t r s v less power : ℕ) → 0 < h → (r + s) * h ≡ s * v → power ≡ less * v → t * h ≡ s * power → t ≡ (s + r) * less
par-ends h t r s v less power some par last sum =
    let one : (r + s) * h * less ≡ s * v * less = ap (λ x. x * less) par in
    let two : t * h ≡ s * (less * v) = sum ∙ ap (λ x. s * x) last in
    let both : h * t ≡ h * ((s + r) * less) = omega (arith, one, two) in
    let up : t ≤ (s + r) * less = le_of_mul-le-mul_left (omega (arith, both)) some in
    let down : (s + r) * less ≤ t = le_of_mul-le-mul_left (omega (arith, both)) some in
    omega arith

par-ends_top : (t r accrued s less : ℕ) → accrued ≡ r → t ≡ (s + r) * less → t * 2000000 ^ 0 * 1 ≡ (s + accrued) * less
par-ends_top t r accrued s less is sum = rw is (omega (arith, sum))

par-first_day : (series : PaymentSeries) (y : ℤ) → series.skip < series.n → series.a ≡ 0 → series.accrued ≡ 0 → series_sum series (discount_divisor y) * 2000000 ≡ series.redemption * discount_divisor y ^ series.n → HoldsWorth (to_come series) y (exactly (series.redemption + series.accrued) 1)
par-first_day series y skip day none sum =
    let count : series.n ≡ series.n - 1 + 1 = omega arith in
    date-holds series y 1 (series.redemption + series.accrued) 1 skip (lit< tt) (omega arith)
    (subst (λ n. series_sum series (discount_divisor y) * 2000000 ^ 1 * 1 ≡ (series.redemption + series.accrued) * discount_divisor y ^ n) count
    (par-begins 2000000 (series_sum series (discount_divisor y)) series.redemption (series.redemption + series.accrued) (discount_divisor y ^ series.n) (omega arith) sum))

par-last_day : (series : PaymentSeries) (y : ℤ) → series.skip < series.n → series.a ≡ 180 → series.accrued ≡ series.regular → (series.regular + series.redemption) * 2000000 ≡ series.redemption * discount_divisor y → series_sum series (discount_divisor y) * 2000000 ≡ series.redemption * discount_divisor y ^ series.n → HoldsWorth (to_come series) y (exactly (series.redemption + series.accrued) 1)
par-last_day series y skip day one par sum =
    let none : series.n - 1 ≡ series.n - 1 + 0 = omega arith in
    let count : suc (series.n - 1) ≡ series.n = omega arith in
    let power : discount_divisor y ^ series.n ≡ discount_divisor y ^ (series.n - 1) * discount_divisor y = ap (λ n. discount_divisor y ^ n) (sym count) ∙ pow-suc (discount_divisor y) (series.n - 1) in
    let worth : series_sum series (discount_divisor y) ≡ (series.redemption + series.regular) * discount_divisor y ^ (series.n - 1)
    = par-ends 2000000 (series_sum series (discount_divisor y)) series.regular series.redemption (discount_divisor y) (discount_divisor y ^ (series.n - 1)) (discount_divisor y ^ series.n) (lit< tt) par power sum in
    date-holds series y 0 (series.redemption + series.accrued) 1 skip (lit< tt) (omega arith)
    (subst (λ n. series_sum series (discount_divisor y) * 2000000 ^ 0 * 1 ≡ (series.redemption + series.accrued) * discount_divisor y ^ n) none
    (par-ends_top (series_sum series (discount_divisor y)) series.regular series.accrued series.redemption (discount_divisor y ^ (series.n - 1)) one worth))

pub par-holds : (series : PaymentSeries) (y : ℤ) → series.skip < series.n → is_par_bond series (discount_divisor y) ≡ true → HoldsWorth (to_come series) y (exactly (series.redemption + series.accrued) 1)
par-holds series y skip bond =
    let parts = and_parts (is_accrued_whole series) (is_level series && yields_par series (discount_divisor y)) bond in
    let rest = and_parts (is_level series) (yields_par series (discount_divisor y)) parts.1 in
    let par : (series.regular + series.redemption) * 2000000 ≡ series.redemption * discount_divisor y = eqb-true ((series.regular + series.redemption) * 2000000) (series.redemption * discount_divisor y) rest.1 in
    let sum = par-sum series (discount_divisor y) skip rest.0 par in
    ⊎_elim
    (λ first. let both = and_parts (nat_eq series.a 0) (nat_eq series.accrued 0) first in
    par-first_day series y skip (eqb-true series.a 0 both.0) (eqb-true series.accrued 0 both.1) sum)
    (λ last. let both = and_parts (nat_eq series.a 180) (nat_eq series.accrued series.regular) last in
    par-last_day series y skip (eqb-true series.a 180 both.0) (eqb-true series.accrued series.regular both.1) par sum)
    (or_cases (nat_eq series.a 0 && nat_eq series.accrued 0) (nat_eq series.a 180 && nat_eq series.accrued series.regular) parts.0)

-- a fact that holds of the worth in each exact case, and else of an enclosure, holds of the ends
pub by-cases : (series : PaymentSeries) (y : ℤ) (enclosure : WorthEnds) (P : WorthEnds → Type 0)
    → (discount_divisor y ≡ 2000000 → P (exactly (sum_to (payment_at series) series.n) 1))
    → (is_par_bond series (discount_divisor y) ≡ true → P (exactly (series.redemption + series.accrued) 1))
    → (is_short series ≡ true → P (short_worth series (discount_divisor y)))
    → (is_exact_case series (discount_divisor y) ≡ false → P enclosure)
    → P (ends_of series y enclosure)
by-cases series y enclosure P zero par short enclosed =
    cond_both (nat_eq (discount_divisor y) 2000000) _ _ (λ (ends : Option WorthEnds). P (unwrap_or ends enclosure))
    (λ is. zero (eqb-true (discount_divisor y) 2000000 is))
    (λ not_zero. cond_both (is_par_bond series (discount_divisor y)) _ _ (λ (ends : Option WorthEnds). P (unwrap_or ends enclosure))
    par
    (λ not_par. cond_both (is_short series) _ _ (λ (ends : Option WorthEnds). P (unwrap_or ends enclosure))
    short
    (λ not_short. enclosed (or_from (nat_eq (discount_divisor y) 2000000) (is_par_bond series (discount_divisor y) || is_short series) not_zero (or_from (is_par_bond series (discount_divisor y)) (is_short series) not_par not_short)))))

-- if an enclosure holds the worth, the ends do
pub ends-hold : (series : PaymentSeries) (y : ℤ) (enclosure : WorthEnds) → series.skip < series.n → 0 < discount_divisor y → HoldsWorth (to_come series) y enclosure → HoldsWorth (to_come series) y (ends_of series y enclosure)
ends-hold series y enclosure skip some holds =
    by-cases series y enclosure (λ ends. HoldsWorth (to_come series) y ends)
    (zero-holds series y skip)
    (par-holds series y skip)
    (short-holds series y skip some)
    (λ not_exact. holds)
