-- The days between two dates as jiff counts them, from the year -10000 on.
use Rattle.std.proofs.Common.{◌≡◌, ℕ, zero, suc, ◌+◌, ◌-◌, ◌≤◌, refl, sym, arith, ◌*◌, ℤ, pos, neg_ℤ, ◌-ℤ◌, ◌*ℤ◌, ◌≤ℤ◌, int_div}
use Rattle.std.proofs.lemmas.Int.{ints}
use Rattle.std.proofs.lemmas.Bool.Decides.{nat_tests}
use Rattle.jiff_core.specs.Calendar as jiff
use Rattle.jiff_core.proofs.MarchLemmas.{leap_day, leap_day-shift, days_of_years-suc}
use Rattle.muni_rule.specs.Civil.{Civil, days_in_year, days_of_years, days_of_months, days_before, civil_days}
use Rattle.muni_days.proofs.CivilLemmas.{IsOfDesk, is_civil}
use Rattle.muni_days.specs.Day.{civil}
use Rattle.muni_days.specs.declared.day.Day.{Day}
use Rattle.jiff.specs.Words.{epoch_day, IsYmd}
use Rattle.jiff_core.specs.declared.civil.date.Date.{Date}

-- ten thousand years are a whole number of the calendar's 400
leap_day-later : (k n : ℕ) → k ≡ 10_000 → leap_day (pos (n + k)) ≡ leap_day (pos n)
leap_day-later k n is = sym (leap_day-shift (pos n) (n + k) (omega (arith, ints)))

leap_day-own : (year : ℕ) → days_in_year year ≡ 365 + leap_day (pos year)
leap_day-own year = grind (arith, nat_tests)

years-shifted : (k n : ℕ) → k ≡ 10_000 → jiff.days_of_years (n + k) ≡ jiff.days_of_years k + days_of_years n
unfolding days_of_years
years-shifted k zero is = (let none : 0 + k ≡ k = omega arith in rw none (omega arith))
years-shifted k (suc n) is =
    let next : suc n + k ≡ suc (n + k) = omega arith in
    let before = years-shifted k n is in
    let more = days_of_years-suc (n + k) in
    let later = leap_day-later k n is in
    let own = leap_day-own n in
    rw next (omega (arith, before, more, later, own))

months-same : (year n : ℕ) → jiff.days_of_months (pos year) n ≡ days_of_months year n
unfolding days_of_months jiff.days_of_months
months-same year zero = refl
months-same year (suc n) = let before = months-same year n in rw before refl

count-of : (k : ℕ) (date : Civil) → k ≡ 10_000 → 1 ≤ date.day → jiff.day_count (pos date.year) date.month date.day ≡ jiff.days_of_years k + days_before date
unfolding jiff.day_count
count-of k date is from =
    let years = years-shifted k date.year is in
    let months = months-same date.year (date.month - 1) in
    rw (← is, months) (omega (arith, years, from))

epoch_days-apart : (first last : Civil) → 1 ≤ first.day → 1 ≤ last.day → jiff.days_from_civil (pos last.year) last.month last.day -ℤ jiff.days_from_civil (pos first.year) first.month first.day ≡ civil_days first last
unfolding jiff.days_from_civil
epoch_days-apart first last from from_last =
    let one = count-of 10_000 first refl from in
    let other = count-of 10_000 last refl from_last in
    rw (one, other) (omega (arith, ints))

pub dates-apart : (first last : Day) (from to : Date) → IsYmd (pos first.year) (pos first.month) (pos first.day) from → IsYmd (pos last.year) (pos last.month) (pos last.day) to → epoch_day to -ℤ epoch_day from ≡ civil_days (civil first) (civil last)
dates-apart first last from to is other =
    let month : from.month ≡ first.month = omega (arith, ints, is.1) in
    let day : from.day ≡ first.day = omega (arith, ints, is.2) in
    let last_month : to.month ≡ last.month = omega (arith, ints, other.1) in
    let last_day : to.day ≡ last.day = omega (arith, ints, other.2) in
    let starts = (is_civil first).day_from in
    let ends = (is_civil last).day_from in
    rw (is.0, month, day, other.0, last_month, last_day) (epoch_days-apart (civil first) (civil last) starts ends)

-- a number of days, in hours and back
pub days-of_hours : (days nanos hours : ℤ) → nanos ≡ days *ℤ pos 86_400_000_000_000 → hours ≡ int_div nanos (pos 3_600_000_000_000) → int_div hours (pos 24) ≡ days
days-of_hours days nanos hours is whole = omega (arith, ints)

-- ---- the dates of the desk are few
years-most : (n : ℕ) → days_of_years n ≤ 366 * n
unfolding days_of_years
years-most zero = omega arith
years-most (suc n) = (let most = years-most n in grind (arith, nat_tests))

months-most : (year n : ℕ) → days_of_months year n ≤ 31 * n
unfolding days_of_months
months-most year zero = omega arith
months-most year (suc n) = (let most = months-most year n in grind (arith, nat_tests))

before-most : (date : Civil) → IsOfDesk date → days_before date ≤ 806_000
before-most date is =
    let years = years-most date.year in
    let months = months-most date.year (date.month - 1) in
    let year = is.year_to in
    let month = is.civil.month_to in
    let day = is.civil.day_to in
    omega (arith, years, months, year, month, day)

pub civil_days-few : (first last : Civil) → IsOfDesk first → IsOfDesk last → (neg_ℤ (pos 806_000) ≤ℤ civil_days first last) × (civil_days first last ≤ℤ pos 806_000)
civil_days-few first last is other =
    let one = before-most first is in
    let more = before-most last other in
    (omega (arith, ints, one, more), omega (arith, ints, one, more))
