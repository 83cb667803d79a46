-- What the list of quasi-coupon dates holds, said without its bounds.
use Rattle.std.specs.Prelude.{◌≡◌, ℕ, ◌<◌, ◌≤◌, ◌↔◌, true, length, ℤ, pos, ◌+ℤ◌, ◌*ℤ◌, Contains, slice_index_or}
use Rattle.muni_rule.specs.Civil.{Civil, month_index, order_of}
use Rattle.muni_rule.specs.QuasiDates.{quasi_dates, is_quasi_date}

-- the date stands in a month of the years 1900 to 2199
pub record IsInDeskMonth (date : Civil) : Type 0 where
  pub year_from : 1900 ≤ date.year
  pub year_to : date.year ≤ 2199
  pub month_from : 1 ≤ date.month
  pub month_to : date.month ≤ 12

-- it has the anchor's day of the month, so many times six months earlier or later
pub record IsAtHalfYears (anchor date : Civil) : Type 0 where
  pub same_day : date.day ≡ anchor.day
  pub half_years : (z : ℤ) × (pos (month_index date) ≡ (pos (month_index anchor) +ℤ (pos 6 *ℤ z)))

-- the list holds exactly the dates of the desk at whole multiples of six months
abbrev pub QuasiDatesAreAll : Type 0
QuasiDatesAreAll =
    (anchor date : Civil)
    → Contains (quasi_dates anchor) date ↔ (IsInDeskMonth date × IsAtHalfYears anchor date)

-- each stands after the ones before it
abbrev pub QuasiDatesRise : Type 0
QuasiDatesRise =
    (anchor date : Civil) (i j : ℕ) → i < j → j < length (quasi_dates anchor)
    → order_of (slice_index_or (quasi_dates anchor) i date)
    < order_of (slice_index_or (quasi_dates anchor) j date)

-- day and month tell of each date of the desk whether the list holds it
abbrev pub QuasiTestIsMembership : Type 0
QuasiTestIsMembership =
    (anchor date : Civil) → IsInDeskMonth date
    → (is_quasi_date anchor date ≡ true) ↔ Contains (quasi_dates anchor) date
