-- The comparison of many periods in the rule's own words, and the exact cases.
use Rattle.std.proofs.Common.{◌≡◌, ℕ, suc, zero, ◌+◌, ◌-◌, ◌*◌, ◌^◌, ◌<◌, ◌≤◌, ◌↔◌, ◌∷◌, ◌++◌, List, [], length, replicate, slice_index_or, inl, inr, ⊎_elim, refl, sym, ap, ◌∙◌, subst, arith, lit<, Bool, true, false, ◌&&◌, ◌||◌, ℤ, pos, negsuc, neg_ℤ, ◌+ℤ◌, ◌*ℤ◌, ◌≤ℤ◌, ◌<ℤ◌}
use Rattle.std.specs.Prelude.{nat_eq, nat_le}
use Rattle.std.proofs.lemmas.Int.{ints}
use Rattle.std.proofs.lemmas.Bool.{cases_lt, eq-eqb, eqb-true, leb-true, le-leb, or_left, or_right, or_cases, and_from, and_parts}
use Rattle.std.proofs.lemmas.Bool.Decides.{nat_tests}
use Rattle.std.proofs.lemmas.List.{length-replicate, get_or-replicate}
use Rattle.std.proofs.Math.Nat.{mul-le-mul_left, le_of_mul-le-mul_left, mul-pos, one-le-pow, pow-zero}
use Rattle.muni_rule.specs.Payments.{PaymentSeries, IsSeries, payments_of, payment_at, add_to_last}
use Rattle.muni_rule.specs.PaymentLaws.{interest_at_place}
use Rattle.muni_rule.specs.ManyPeriods.{PeriodicPayments, to_come, discount_divisor, worth_power, asked_power, sum_to, whole_sum, IsWorthAtLeast, IsWorthMore, DirtyAtLeast, DirtyMore}
use Rattle.muni_rule.specs.ExactCases.{IsAccruedWhole, IsParBond, IsShort, IsExactCase, on_interest_date, is_accrued_whole, is_level, yields_par, is_par_bond, is_short, is_exact_case}
use Rattle.muni_rule.specs.WorthEnds.{HoldsWorth, exactly}
use Rattle.muni_rule.specs.ManyPeriodLaws.{ComparesAs, BelowZeroIsReached, FirstDayIsFraction, LastDayIsFraction, ZeroYieldIsSum, ParBondIsRedemption, ParYieldIsCoupon, NumbersTellExactCases, IsWorth, ExactCasesAreExact, OthersAreEnclosed}
use Rattle.muni_rule.proofs.PowerLemmas.{pow-one}
use Rattle.muni_rule.proofs.SumLemmas.{tail_sum, tail_sum-all, tail_sum-some}
use Rattle.muni_rule.proofs.SeriesLemmas.{payment-last, worth_power-series, interest-places, interest-count}
use Rattle.muni_rule.proofs.ExactLemmas.{series_sum, date-fraction, zero-holds, par-holds, short-holds, by-cases}
use Rattle.muni_rule.proofs.VerdictLemmas.{reached-by, not_reached, passed-by, not_passed}

-- what is below zero is below every fraction
negative-less : (x unit top : ℕ) → 0 < unit → (negsuc x *ℤ pos unit) <ℤ pos top
negative-less x zero top some = absurd (omega arith)
negative-less x (suc unit) top some = omega (arith, ints)

strict-weak : (a b : ℤ) → a <ℤ b → a ≤ℤ b
strict-weak a b less = omega (arith, ints)

reaches-fraction : (bond : PeriodicPayments) (y : ℤ) (top unit : ℕ) → 0 < discount_divisor y → HoldsWorth bond y (exactly top unit) → (x : ℕ) → IsWorthAtLeast bond y x ↔ (x * unit ≤ top)
reaches-fraction bond y top unit some holds x = (
  λ reached. ⊎_elim (λ less. absurd (not_reached bond y (exactly top unit) x some holds less reached)) (λ order. order) (cases_lt top (x * unit)),
  λ order. reached-by bond y (exactly top unit) x holds order,
)

passes-fraction : (bond : PeriodicPayments) (y : ℤ) (top unit : ℕ) → 0 < discount_divisor y → HoldsWorth bond y (exactly top unit) → (x : ℕ) → IsWorthMore bond y x ↔ (x * unit < top)
passes-fraction bond y top unit some holds x = (
  λ passed. ⊎_elim (λ less. less) (λ order. absurd (not_passed bond y (exactly top unit) x holds order passed)) (cases_lt (x * unit) top),
  λ less. passed-by bond y (exactly top unit) x some holds less,
)

compares-at_least : (bond : PeriodicPayments) (y : ℤ) (top unit : ℕ) → 0 < discount_divisor y → HoldsWorth bond y (exactly top unit) → (z : ℤ) → DirtyAtLeast bond y z ↔ ((z *ℤ pos unit) ≤ℤ pos top)
compares-at_least bond y top unit some holds (pos x) =
    let whole = reaches-fraction bond y top unit some holds x in
    (λ reached. let order = whole.0 reached in omega (arith, ints, order), λ order. whole.1 (omega (arith, ints, order)))
compares-at_least bond y top unit some holds (negsuc x) = (λ reached. strict-weak (negsuc x *ℤ pos unit) (pos top) (negative-less x unit top holds.some), λ order. tt)

compares-more : (bond : PeriodicPayments) (y : ℤ) (top unit : ℕ) → 0 < discount_divisor y → HoldsWorth bond y (exactly top unit) → (z : ℤ) → DirtyMore bond y z ↔ ((z *ℤ pos unit) <ℤ pos top)
compares-more bond y top unit some holds (pos x) =
    let whole = passes-fraction bond y top unit some holds x in
    (λ passed. let less = whole.0 passed in omega (arith, ints, less), λ less. whole.1 (omega (arith, ints, less)))
compares-more bond y top unit some holds (negsuc x) = (λ passed. negative-less x unit top holds.some, λ less. tt)

compares : (bond : PeriodicPayments) (y : ℤ) (top unit : ℕ) → 0 < discount_divisor y → HoldsWorth bond y (exactly top unit) → ComparesAs bond y top unit
compares bond y top unit some holds = record {
  at_least = λ amount. compares-at_least bond y top unit some holds (amount +ℤ pos bond.accrued);
  more = λ amount. compares-more bond y top unit some holds (amount +ℤ pos bond.accrued);
}

one_more : (v h t n m i : ℕ) → m ≡ n → i ≡ 1 → t * h ^ i * v ^ n ≡ t * h * v ^ m
one_more v h t n m i same one = rw (one, pow-one h, same) refl

none_more : (v h t n m : ℕ) → m ≡ n → t * h ^ 0 * v ^ n ≡ t * v ^ m
none_more v h t n m same = rw (pow-zero h, same) (omega arith)

pub first_day-fraction : FirstDayIsFraction
first_day-fraction bond y some day divisor =
    let count : length bond.payments - 1 + 1 ≡ length bond.payments = omega arith in
    compares bond y (whole_sum bond y * 2000000) (discount_divisor y ^ length bond.payments) divisor
    (date-fraction bond y 1 (whole_sum bond y * 2000000) (discount_divisor y ^ length bond.payments) (one-le-pow (length bond.payments) (discount_divisor y) divisor) (omega arith)
    (one_more (discount_divisor y) 2000000 (whole_sum bond y) (length bond.payments) (length bond.payments - 1 + 1) 1 count refl))

pub last_day-fraction : LastDayIsFraction
last_day-fraction bond y some day divisor =
    let count : length bond.payments - 1 + 0 ≡ length bond.payments - 1 = omega arith in
    compares bond y (whole_sum bond y) (discount_divisor y ^ (length bond.payments - 1)) divisor
    (date-fraction bond y 0 (whole_sum bond y) (discount_divisor y ^ (length bond.payments - 1)) (one-le-pow (length bond.payments - 1) (discount_divisor y) divisor) (omega arith)
    (none_more (discount_divisor y) 2000000 (whole_sum bond y) (length bond.payments - 1) (length bond.payments - 1 + 0) count))

pub zero_yield-sum : ZeroYieldIsSum
zero_yield-sum series is = compares (to_come series) (pos 0) (sum_to (payment_at series) series.n) 1 (lit< tt) (zero-holds series (pos 0) is.skip refl)

-- the interest of half a year is half the yield on the redemption
par-amounts : (n regular redemption : ℕ) → (regular + redemption) * 2000000 ≡ redemption * (2000000 + n) → regular * 2000000 ≡ n * redemption
par-amounts n regular redemption same = omega (arith, same)

amounts-par : (n regular redemption : ℕ) → regular * 2000000 ≡ n * redemption → (regular + redemption) * 2000000 ≡ redemption * (2000000 + n)
amounts-par n regular redemption same = omega (arith, same)

-- no yield below zero is that of a par bond
par-not_below : (n regular redemption : ℕ) → 0 < redemption → (regular + redemption) * 2000000 ≡ redemption * (2000000 - suc n) → ⊥
par-not_below n regular redemption some same =
    let less : redemption * (2000000 - suc n) ≤ redemption * 1999999 = mul-le-mul_left redemption (omega arith) in
    omega (arith, same, less)

not-negative : (x less : ℕ) → 0 < less → pos x ≡ neg_ℤ (pos less) → ⊥
not-negative x (suc less) some same = omega (arith, ints, same)
not-negative x zero some same = omega arith

yield-par : (y : ℤ) (regular redemption : ℕ) → 0 < redemption → (regular + redemption) * 2000000 ≡ redemption * discount_divisor y → pos (regular * 2000000) ≡ y *ℤ pos redemption
yield-par (pos n) regular redemption some same = ap pos (par-amounts n regular redemption same)
yield-par (negsuc n) regular redemption some same = absurd (par-not_below n regular redemption some same)

par-yield : (y : ℤ) (regular redemption : ℕ) → 0 < redemption → pos (regular * 2000000) ≡ y *ℤ pos redemption → (regular + redemption) * 2000000 ≡ redemption * discount_divisor y
par-yield (pos n) regular redemption some same = amounts-par n regular redemption (let amounts : regular * 2000000 ≡ n * redemption = cc same in amounts)
par-yield (negsuc n) regular redemption some same = absurd (not-negative (regular * 2000000) (suc n * redemption) (mul-pos (omega arith) some) same)

coupon-scaled : (coupon price n : ℕ) → (18000 * coupon * 2000000 ≡ n * (360000 * price)) ↔ (coupon * 100000 ≡ n * price)
coupon-scaled coupon price n = (λ same. omega (arith, same), λ same. omega (arith, same))

negative-scaled : (x factor price : ℕ) → 0 < factor → pos x ≡ neg_ℤ (pos price) → pos (factor * x) ≡ neg_ℤ (pos (factor * price))
negative-scaled x factor zero some same =
    let none : x ≡ 0 = omega (arith, ints, same) in
    let left : factor * x ≡ 0 = rw none (omega arith) in
    let right : factor * 0 ≡ 0 = omega arith in
    rw (left, right) refl
negative-scaled x factor (suc price) some same = absurd (not-negative x (suc price) (omega arith) same)

negative-none : (x less : ℕ) → pos x ≡ neg_ℤ (pos less) → (x ≡ 0) × (less ≡ 0)
negative-none x zero same = (omega (arith, ints, same), refl)
negative-none x (suc less) same = absurd (not-negative x (suc less) (omega arith) same)

none-negative : (x less : ℕ) → x ≡ 0 → less ≡ 0 → pos x ≡ neg_ℤ (pos less)
none-negative x less none none' = rw (none, none') refl

pub par_yield-coupon : ParYieldIsCoupon
par_yield-coupon coupon price (pos n) = (
  λ same. ap pos ((coupon-scaled coupon price n).0 (let amounts : 18000 * coupon * 2000000 ≡ n * (360000 * price) = cc same in amounts)),
  λ same. ap pos ((coupon-scaled coupon price n).1 (let amounts : coupon * 100000 ≡ n * price = cc same in amounts)),
)
par_yield-coupon coupon price (negsuc n) = (
  λ same. let none = negative-none (18000 * coupon * 2000000) (suc n * (360000 * price)) same in
      none-negative (coupon * 100000) (suc n * price) (omega (arith, none.0)) (omega (arith, none.1)),
  λ same. let none = negative-none (coupon * 100000) (suc n * price) same in
      none-negative (18000 * coupon * 2000000) (suc n * (360000 * price)) (omega (arith, none.0)) (omega (arith, none.1)),
)

false-true : (test : Bool) → test ≡ false → test ≡ true → ⊥
false-true test not is = cc

-- ---- from the numbers to the sentences
zero-divisor : (y : ℤ) → discount_divisor y ≡ 2000000 → y ≡ pos 0
zero-divisor (pos n) same = ap pos (let none : n ≡ 0 = omega (arith, same) in none)
zero-divisor (negsuc n) same = absurd (omega (arith, same))

accrued-sentence : (series : PaymentSeries) → is_accrued_whole series ≡ true → IsAccruedWhole series
accrued-sentence series whole =
    ⊎_elim
    (λ first. let both = and_parts (nat_eq series.a 0) (nat_eq series.accrued 0) first in
    inl (eqb-true series.a 0 both.0, eqb-true series.accrued 0 both.1))
    (λ last. let both = and_parts (nat_eq series.a 180) (nat_eq series.accrued series.regular) last in
    inr (eqb-true series.a 180 both.0, eqb-true series.accrued series.regular both.1))
    (or_cases (nat_eq series.a 0 && nat_eq series.accrued 0) (nat_eq series.a 180 && nat_eq series.accrued series.regular) whole)

level-list : (n regular : ℕ) → 1 ≤ n → regular ∷ replicate (n - 0 - 1) regular ≡ replicate n regular
level-list zero regular some = absurd (omega arith)
level-list (suc n) regular some = let less : suc n - 0 - 1 ≡ n = omega arith in ap (λ m. regular ∷ replicate m regular) less

level-payments : (n skip first regular : ℕ) → 1 ≤ n → skip ≡ 0 → first ≡ regular → replicate skip 0 ++ first ∷ replicate (n - skip - 1) regular ≡ replicate n regular
level-payments n skip first regular some none same = rw (none, same) (level-list n regular some)

level-sentence : (series : PaymentSeries) → 1 ≤ series.n → is_level series ≡ true → payments_of series ≡ add_to_last series.redemption (replicate series.n series.regular)
level-sentence series some level =
    let both = and_parts (nat_eq series.skip 0) (nat_eq series.first series.regular) level in
    ap (add_to_last series.redemption) (level-payments series.n series.skip series.first series.regular some (eqb-true series.skip 0 both.0) (eqb-true series.first series.regular both.1))

bond-sentence : (series : PaymentSeries) (y : ℤ) → IsSeries series → is_par_bond series (discount_divisor y) ≡ true → IsParBond series y
bond-sentence series y is bond =
    let parts = and_parts (is_accrued_whole series) (is_level series && yields_par series (discount_divisor y)) bond in
    let rest = and_parts (is_level series) (yields_par series (discount_divisor y)) parts.1 in
    let from = is.redemption_from in
    record {
      accrued = accrued-sentence series parts.0;
      level = level-sentence series is.n_from rest.0;
      yield = yield-par y series.regular series.redemption (omega arith) (eqb-true ((series.regular + series.redemption) * 2000000) (series.redemption * discount_divisor y) rest.1);
    }

short-sentence : (series : PaymentSeries) → is_short series ≡ true → IsShort series
short-sentence series short =
    let both = and_parts (on_interest_date series) (nat_le series.n 3) short in
    record {
      date = ⊎_elim (λ first. inl (eqb-true series.a 0 first)) (λ last. inr (eqb-true series.a 180 last)) (or_cases (nat_eq series.a 0) (nat_eq series.a 180) both.0);
      few = leb-true series.n 3 both.1;
    }

cases-sentence : (series : PaymentSeries) (y : ℤ) → IsSeries series → is_exact_case series (discount_divisor y) ≡ true → IsExactCase series y
cases-sentence series y is one =
    ⊎_elim
    (λ zero_yield. inl (zero-divisor y (eqb-true (discount_divisor y) 2000000 zero_yield)))
    (λ rest. inr (⊎_elim
    (λ bond. inl (bond-sentence series y is bond))
    (λ short. inr (short-sentence series short))
    (or_cases (is_par_bond series (discount_divisor y)) (is_short series) rest)))
    (or_cases (nat_eq (discount_divisor y) 2000000) (is_par_bond series (discount_divisor y) || is_short series) one)

-- ---- from the sentences to the numbers
accrued-number : (series : PaymentSeries) → IsAccruedWhole series → is_accrued_whole series ≡ true
accrued-number series whole =
    ⊎_elim
    (λ first. or_left (nat_eq series.a 0 && nat_eq series.accrued 0) (nat_eq series.a 180 && nat_eq series.accrued series.regular) (and_from (nat_eq series.a 0) (nat_eq series.accrued 0) (eq-eqb series.a 0 first.0) (eq-eqb series.accrued 0 first.1)))
    (λ last. or_right (nat_eq series.a 0 && nat_eq series.accrued 0) (nat_eq series.a 180 && nat_eq series.accrued series.regular) (and_from (nat_eq series.a 180) (nat_eq series.accrued series.regular) (eq-eqb series.a 180 last.0) (eq-eqb series.accrued series.regular last.1)))
    whole

same-first : (amount : ℕ) (one other : List ℕ) → length one ≡ length other → add_to_last amount one ≡ add_to_last amount other → slice_index_or one 0 0 ≡ slice_index_or other 0 0
same-first amount [] [] count same = refl
same-first amount [] (y ∷ rest) count same = absurd (omega (arith, count))
same-first amount (x ∷ rest) [] count same = absurd (omega (arith, count))
same-first amount (x ∷ []) (y ∷ []) count same = let heads : x + amount ≡ y + amount = ap (λ payments. slice_index_or payments 0 0) same in omega (arith, heads)
same-first amount (x ∷ []) (y ∷ next ∷ rest) count same = absurd (omega (arith, count))
same-first amount (x ∷ next ∷ rest) (y ∷ []) count same = absurd (omega (arith, count))
same-first amount (x ∷ next ∷ rest) (y ∷ next' ∷ rest') count same = ap (λ payments. slice_index_or payments 0 0) same

first-interest : (series : PaymentSeries) → series.skip < series.n → payments_of series ≡ add_to_last series.redemption (replicate series.n series.regular) → interest_at_place series.skip series.first series.regular 0 ≡ series.regular
first-interest series skip level =
    let count : length (replicate series.skip 0 ++ series.first ∷ replicate (series.n - series.skip - 1) series.regular) ≡ length (replicate series.n series.regular)
    = interest-count series.skip (series.n - series.skip - 1) series.first series.regular ∙ ((let places : series.skip + suc (series.n - series.skip - 1) ≡ series.n = omega arith in places) ∙ sym (length-replicate series.n series.regular)) in
    sym (interest-places series.skip (series.n - series.skip - 1) series.first series.regular 0 (omega arith))
    ∙ (same-first series.redemption (replicate series.skip 0 ++ series.first ∷ replicate (series.n - series.skip - 1) series.regular) (replicate series.n series.regular) count level
    ∙ get_or-replicate series.n 0 series.regular 0 (omega arith))

skipped-none : (skip first regular : ℕ) → 0 < skip → interest_at_place skip first regular 0 ≡ regular → regular ≡ 0
skipped-none skip first regular some same = grind (arith, nat_tests)

not_skipped-same : (skip first regular : ℕ) → skip ≡ 0 → interest_at_place skip first regular 0 ≡ regular → first ≡ regular
not_skipped-same skip first regular none same = grind (arith, nat_tests)

none-divisor : (regular redemption v : ℕ) → regular ≡ 0 → 0 < redemption → (regular + redemption) * 2000000 ≡ redemption * v → v ≡ 2000000
none-divisor regular redemption v none some same =
    let both : redemption * 2000000 ≡ redemption * v = omega (arith, same, none) in
    let up : 2000000 ≤ v = le_of_mul-le-mul_left (omega (arith, both)) some in
    let down : v ≤ 2000000 = le_of_mul-le-mul_left (omega (arith, both)) some in
    omega arith

bond-number : (series : PaymentSeries) (y : ℤ) → IsSeries series → IsParBond series y → is_exact_case series (discount_divisor y) ≡ true
bond-number series y is bond =
    let from = is.redemption_from in
    let par = par-yield y series.regular series.redemption (omega arith) bond.yield in
    let first = first-interest series is.skip bond.level in
    ⊎_elim
    (λ skipped. let none = skipped-none series.skip series.first series.regular skipped first in
    or_left (nat_eq (discount_divisor y) 2000000) (is_par_bond series (discount_divisor y) || is_short series) (eq-eqb (discount_divisor y) 2000000 (none-divisor series.regular series.redemption (discount_divisor y) none (omega arith) par)))
    (λ not_skipped. let none : series.skip ≡ 0 = omega arith in
    or_right (nat_eq (discount_divisor y) 2000000) (is_par_bond series (discount_divisor y) || is_short series)
    (or_left (is_par_bond series (discount_divisor y)) (is_short series)
    (and_from (is_accrued_whole series) (is_level series && yields_par series (discount_divisor y)) (accrued-number series bond.accrued)
    (and_from (is_level series) (yields_par series (discount_divisor y))
    (and_from (nat_eq series.skip 0) (nat_eq series.first series.regular) (eq-eqb series.skip 0 none) (eq-eqb series.first series.regular (not_skipped-same series.skip series.first series.regular none first)))
    (eq-eqb ((series.regular + series.redemption) * 2000000) (series.redemption * discount_divisor y) par)))))
    (cases_lt 0 series.skip)

short-number : (series : PaymentSeries) → IsShort series → is_short series ≡ true
short-number series short =
    and_from (on_interest_date series) (nat_le series.n 3)
    (⊎_elim (λ first. or_left (nat_eq series.a 0) (nat_eq series.a 180) (eq-eqb series.a 0 first)) (λ last. or_right (nat_eq series.a 0) (nat_eq series.a 180) (eq-eqb series.a 180 last)) short.date)
    (le-leb series.n 3 short.few)

cases-number : (series : PaymentSeries) (y : ℤ) → IsSeries series → IsExactCase series y → is_exact_case series (discount_divisor y) ≡ true
cases-number series y is one =
    ⊎_elim
    (λ zero_yield. or_left (nat_eq (discount_divisor y) 2000000) (is_par_bond series (discount_divisor y) || is_short series) (eq-eqb (discount_divisor y) 2000000 (ap discount_divisor zero_yield)))
    (λ rest. ⊎_elim
    (λ bond. bond-number series y is bond)
    (λ short. or_right (nat_eq (discount_divisor y) 2000000) (is_par_bond series (discount_divisor y) || is_short series) (or_right (is_par_bond series (discount_divisor y)) (is_short series) (short-number series short)))
    rest)
    one

pub numbers-tell : NumbersTellExactCases
numbers-tell series y is = (cases-sentence series y is, cases-number series y is)

-- ---- the ends in an exact case and in none
one-fraction : (bond : PeriodicPayments) (y : ℤ) (top unit : ℕ) → HoldsWorth bond y (exactly top unit) → IsWorth bond y (exactly top unit)
one-fraction bond y top unit holds = record { equal = refl; holds = holds }

pub not_exact-sentence : (series : PaymentSeries) (y : ℤ) → IsSeries series → is_exact_case series (discount_divisor y) ≡ false → IsExactCase series y → ⊥
not_exact-sentence series y is not_exact exact = false-true (is_exact_case series (discount_divisor y)) not_exact (cases-number series y is exact)

pub exact-worth : ExactCasesAreExact
exact-worth series y enclosure is some exact =
    by-cases series y enclosure (λ ends. IsWorth (to_come series) y ends)
    (λ zero_yield. one-fraction (to_come series) y _ _ (zero-holds series y is.skip zero_yield))
    (λ bond. one-fraction (to_come series) y _ _ (par-holds series y is.skip bond))
    (λ short. one-fraction (to_come series) y _ _ (short-holds series y is.skip some short))
    (λ not_exact. absurd (not_exact-sentence series y is not_exact exact))

pub open-enclosed : OthersAreEnclosed
open-enclosed series y enclosure is not_exact =
    by-cases series y enclosure (λ ends. ends ≡ enclosure)
    (λ zero_yield. absurd (not_exact (inl (zero-divisor y zero_yield))))
    (λ bond. absurd (not_exact (inr (inl (bond-sentence series y is bond)))))
    (λ short. absurd (not_exact (inr (inr (short-sentence series short)))))
    (λ none. refl)

-- ---- a par bond
-- the same numbers, with no payment skipped and the first one regular
abbrev level-series : PaymentSeries → PaymentSeries
level-series series = record {
  n = series.n;
  skip = 0;
  first = series.regular;
  regular = series.regular;
  redemption = series.redemption;
  accrued = series.accrued;
  a = series.a;
}

product-some : (x y z : ℕ) → 0 < x → x ≡ y * z → 0 < z
product-some x y zero some same = let none : y * 0 ≡ 0 = omega arith in omega (arith, same, none)
product-some x y (suc z) some same = omega arith

par-bond_number : (series : PaymentSeries) (v : ℕ) → IsAccruedWhole series → (series.regular + series.redemption) * 2000000 ≡ series.redemption * v → is_par_bond (level-series series) v ≡ true
par-bond_number series v accrued par =
    and_from (is_accrued_whole series) (nat_eq series.regular series.regular && yields_par series v) (accrued-number series accrued)
    (and_from (nat_eq series.regular series.regular) (yields_par series v) (eq-eqb series.regular series.regular refl) (eq-eqb ((series.regular + series.redemption) * 2000000) (series.redemption * v) par))

pub par_bond-redemption : ParBondIsRedemption
par_bond-redemption series y is bond =
    let from = is.redemption_from in
    let some = is.n_from in
    let par = par-yield y series.regular series.redemption (omega arith) bond.yield in
    let divisor : 0 < discount_divisor y = product-some ((series.regular + series.redemption) * 2000000) series.redemption (discount_divisor y) (omega arith) par in
    let holds = par-holds (level-series series) y (omega arith) (par-bond_number series (discount_divisor y) bond.accrued par) in
    let level : payments_of (level-series series) ≡ payments_of series = ap (add_to_last series.redemption) (level-list series.n series.regular some) ∙ sym bond.level in
    subst (λ payments. ComparesAs (record { payments = payments; accrued = series.accrued; a = series.a }) y (series.redemption + series.accrued) 1) level
    (compares (to_come (level-series series)) y (series.redemption + series.accrued) 1 divisor holds)

-- ---- an amount below zero
pub payment-last_some : (series : PaymentSeries) → IsSeries series → 0 < payment_at series (series.n - 1)
payment-last_some series is =
    let from = is.redemption_from in
    let some = is.n_from in
    let last = payment-last series (series.n - 1) is.skip (omega arith) in
    omega (arith, last)

pub series_sum-some : (series : PaymentSeries) (v : ℕ) → IsSeries series → 0 < series_sum series v
series_sum-some series v is =
    let some = is.n_from in
    let count : suc (series.n - 1) ≡ series.n = omega arith in
    let last : 0 < payment_at series (0 + (series.n - 1)) = subst (λ k. 0 < payment_at series k) (omega arith) (payment-last_some series is) in
    subst (λ t. 0 < t) (tail_sum-all (payment_at series) 2000000 v series.n)
    (subst (λ n. 0 < tail_sum (payment_at series) 2000000 v n 0) count (tail_sum-some (payment_at series) 2000000 v (series.n - 1) 0 (lit< tt) last))

pub worth_power-some : (series : PaymentSeries) (y : ℤ) → IsSeries series → 0 < worth_power (to_come series) y
worth_power-some series y is =
    subst (λ t. 0 < t) (sym (worth_power-series series y is.skip))
    (mul-pos (one-le-pow 180 (series_sum series (discount_divisor y)) (series_sum-some series (discount_divisor y) is)) (one-le-pow (180 - series.a) 2000000 (lit< tt)))

-- what is asked for at zero is nothing
asked-none : (x power : ℕ) → x ≡ 0 → x ^ 180 * power ≡ 0
asked-none x power none = rw none (omega arith)

dirty-passed : (series : PaymentSeries) (y z : ℤ) → IsSeries series → z ≤ℤ pos 0 → DirtyAtLeast (to_come series) y z × DirtyMore (to_come series) y z
dirty-passed series y (pos x) is below =
    let asked : asked_power (to_come series) y x ≡ 0 = asked-none x (discount_divisor y ^ ((length (payments_of series) - 1) * 180 + (180 - series.a))) (omega (arith, ints, below)) in
    let some = worth_power-some series y is in
    (record { at_least = omega (arith, asked) }, record { more = omega (arith, asked, some) })
dirty-passed series y (negsuc x) is below = (tt, tt)

pub below_zero-reached : BelowZeroIsReached
below_zero-reached series y amount is below = dirty-passed series y (amount +ℤ pos series.accrued) is below
