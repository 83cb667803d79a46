-- The list of quasi-coupon dates holds all of them, in order, and the test says which dates are in it.
use Rattle.std.proofs.Common.{◌≡◌, ℕ, ◌+◌, ◌-◌, ◌*◌, ◌/◌, ◌%◌, ◌<◌, ◌≤◌, length, refl, ap, sym, ◌∙◌, subst, arith, ℤ, pos, ◌+ℤ◌, ◌-ℤ◌, ◌*ℤ◌, eqb, true}
use Rattle.std.proofs.lemmas.Int.{ints}
use Rattle.std.proofs.lemmas.Bool.{and_parts, and_from, eqb-true, eq-eqb}
use Rattle.std.specs.Prelude.{Contains, slice_index_or}
use Rattle.std.proofs.lemmas.List.FromFn.{length-map-range_with_len, get_or-map-range_with_len}
use Rattle.muni_rule.specs.Civil.{Civil, day_in_month, month_index, order_of}
use Rattle.muni_rule.specs.QuasiDates.{quasi_dates, is_quasi_date}
use Rattle.muni_rule.specs.QuasiDateLaws.{IsInDeskMonth, IsAtHalfYears}
use Rattle.muni_rule.proofs.QuasiDateLemmas.{date_at, quasi_dates-places}

pub length-quasi_dates : (anchor : Civil) → length (quasi_dates anchor) ≡ 600
length-quasi_dates anchor = rw (quasi_dates-places anchor) (length-map-range_with_len (date_at anchor.day (month_index anchor % 6)) 3_800 600)

item-quasi_dates : (anchor date : Civil) (i : ℕ) → i < 600 → slice_index_or (quasi_dates anchor) i date ≡ date_at anchor.day (month_index anchor % 6) (3_800 + i)
item-quasi_dates anchor date i h = rw (quasi_dates-places anchor) (get_or-map-range_with_len (date_at anchor.day (month_index anchor % 6)) 3_800 600 i (3_800 + i) date h refl)

date_at-in_desk : (day rest k : ℕ) → rest < 6 → 3_800 ≤ k → k < 4_400 → IsInDeskMonth (date_at day rest k)
date_at-in_desk day rest k h1 h2 h3 = record { year_from = omega arith; year_to = omega arith; month_from = omega arith; month_to = omega arith }

half_years-from : (index k : ℕ) → (z : ℤ) × (pos (6 * k + index % 6) ≡ (pos index +ℤ (pos 6 *ℤ z)))
half_years-from index k = (pos k -ℤ pos (index / 6), omega (arith, ints))

month_index-date_at : (day rest k : ℕ) → month_index (date_at day rest k) ≡ 6 * k + rest
month_index-date_at day rest k = omega arith

pub item-is_quasi : (anchor date : Civil) (i : ℕ) → i < 600 → slice_index_or (quasi_dates anchor) i date ≡ date → IsInDeskMonth date × IsAtHalfYears anchor date
item-is_quasi anchor date i h item =
    let rest = month_index anchor % 6 in
    let same : date ≡ date_at anchor.day rest (3_800 + i) = sym item ∙ item-quasi_dates anchor date i h in
    let Is : Civil → Type 0 = λ it. IsInDeskMonth it × IsAtHalfYears anchor it in
    let half_years = half_years-from (month_index anchor) (3_800 + i) in
    let there : Is (date_at anchor.day rest (3_800 + i)) = (
      date_at-in_desk anchor.day rest (3_800 + i) (omega arith) (omega arith) (omega arith),
      record { same_day = refl; half_years = (half_years.0, ap pos (month_index-date_at anchor.day rest (3_800 + i)) ∙ half_years.1) },
    ) in
    subst Is (sym same) there

same_rest : (index other : ℕ) (z : ℤ) → pos other ≡ (pos index +ℤ (pos 6 *ℤ z)) → other % 6 ≡ index % 6
same_rest index other z h = omega (arith, ints)

day_in_month-back : (date : Civil) → 1 ≤ date.month → date.month ≤ 12 → day_in_month (month_index date) date.day ≡ date
day_in_month-back date from to =
    let year : (date.year * 12 + (date.month - 1)) / 12 ≡ date.year = omega arith in
    let month : (date.year * 12 + (date.month - 1)) % 12 + 1 ≡ date.month = omega arith in
    rw (year, month) refl

pub quasi-contained : (anchor date : Civil) → IsInDeskMonth date → IsAtHalfYears anchor date → Contains (quasi_dates anchor) date
quasi-contained anchor date in_desk at_half_years =
    let rest = month_index anchor % 6 in
    let index = month_index date in
    let left : index % 6 ≡ rest = same_rest (month_index anchor) index at_half_years.half_years.0 at_half_years.half_years.1 in
    let low : 22_800 ≤ index = omega arith in
    let high : index < 26_400 = omega arith in
    let i : ℕ = index / 6 - 3_800 in
    let inside : i < 600 = omega arith in
    let same : 6 * (3_800 + i) + rest ≡ index = omega arith in
    (i, rw (length-quasi_dates anchor) inside, item-quasi_dates anchor date i inside ∙ rw (same, sym at_half_years.same_day) (day_in_month-back date in_desk.month_from in_desk.month_to))

pub quasi_dates-rise : (anchor date : Civil) (i j : ℕ) → i < j → j < length (quasi_dates anchor) → order_of (slice_index_or (quasi_dates anchor) i date) < order_of (slice_index_or (quasi_dates anchor) j date)
quasi_dates-rise anchor date i j before inside =
    let count = length-quasi_dates anchor in
    rw (item-quasi_dates anchor date i (omega arith), item-quasi_dates anchor date j (omega arith)) (omega arith)

half_years-between : (index other : ℕ) → other % 6 ≡ index % 6 → (z : ℤ) × (pos other ≡ (pos index +ℤ (pos 6 *ℤ z)))
half_years-between index other h = (pos (other / 6) -ℤ pos (index / 6), omega (arith, ints))

pub test-contained : (anchor date : Civil) → IsInDeskMonth date → is_quasi_date anchor date ≡ true → Contains (quasi_dates anchor) date
test-contained anchor date in_desk test =
    let parts = and_parts (eqb date.day anchor.day) (eqb (month_index date % 6) (month_index anchor % 6)) test in
    let day = eqb-true date.day anchor.day parts.0 in
    let left = eqb-true (month_index date % 6) (month_index anchor % 6) parts.1 in
    quasi-contained anchor date in_desk (record { same_day = day; half_years = half_years-between (month_index anchor) (month_index date) left })

pub contained-test : (anchor date : Civil) → Contains (quasi_dates anchor) date → is_quasi_date anchor date ≡ true
contained-test anchor date contained =
    let count = length-quasi_dates anchor in
    let half_years = (item-is_quasi anchor date contained.0 (omega arith) contained.2).1 in
    let left = same_rest (month_index anchor) (month_index date) half_years.half_years.0 half_years.half_years.1 in
    and_from (eqb date.day anchor.day) (eqb (month_index date % 6) (month_index anchor % 6)) (eq-eqb date.day anchor.day half_years.same_day) (eq-eqb (month_index date % 6) (month_index anchor % 6) left)
