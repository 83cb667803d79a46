-- Dates of the civil calendar (Gregorian) as three numbers, their order, steps of whole months, and the
-- days between them.
use Rattle.std.specs.Prelude.{ℕ, zero, suc, Bool, not, nat_le, nat_lt, ◌+◌, ◌-◌, ◌*◌, ◌/◌, ◌%◌, ◌≤◌, ◌==◌, ◌&&◌, ◌||◌, if◌then◌else◌, ℤ, pos, ◌+ℤ◌, ◌-ℤ◌, unsigned_abs}

-- a date: its year, its month from 1 and its day from 1
pub record Civil : Type 0 where
  pub year : ℕ
  pub month : ℕ
  pub day : ℕ

-- its month is one of a year's, and its day is one that some month has
pub record IsCivil (date : Civil) : Type 0 where
  pub month_from : 1 ≤ date.month
  pub month_to : date.month ≤ 12
  pub day_from : 1 ≤ date.day
  pub day_to : date.day ≤ 31

-- the place of a date in the order of dates, where every month has room for 31 days
abbrev pub order_of : Civil → ℕ
order_of date = date.year * 372 + date.month * 31 + date.day

-- one date is before another
abbrev pub is_before : Civil → Civil → Bool
is_before date other = nat_lt (order_of date) (order_of other)

-- one date is not after another
abbrev pub is_not_after : Civil → Civil → Bool
is_not_after date other = nat_le (order_of date) (order_of other)

-- the place of a date's month in the order of months
abbrev pub month_index : Civil → ℕ
month_index date = date.year * 12 + (date.month - 1)

-- the date with this day in the month at that place
abbrev pub day_in_month : ℕ → ℕ → Civil
day_in_month index day = record { year = index / 12; month = index % 12 + 1; day = day }

-- the same day of the month so many months later, or earlier if the number is negative
abbrev pub months_on : Civil → ℤ → Civil
months_on date months = day_in_month (unsigned_abs (pos (month_index date) +ℤ months)) date.day

-- every fourth year, but of the centuries only every fourth
abbrev pub is_leap_year : ℕ → Bool
is_leap_year year = (year % 4 == 0) && (not (year % 100 == 0) || (year % 400 == 0))

-- February has 28 days and in a leap year 29; April, June, September and November have 30
abbrev pub days_in_month : ℕ → ℕ → ℕ
days_in_month year month =
    if month == 2 then (if is_leap_year year then 29 else 28)
    else (if (month == 4) || (month == 6) || (month == 9) || (month == 11) then 30 else 31)

abbrev pub days_in_year : ℕ → ℕ
days_in_year year = if is_leap_year year then 366 else 365

-- the calendar has this date
pub record IsOfCalendar (date : Civil) : Type 0 where
  pub month_from : 1 ≤ date.month
  pub month_to : date.month ≤ 12
  pub day_from : 1 ≤ date.day
  pub day_to : date.day ≤ days_in_month date.year date.month

-- the days of all years before a year, from the year 0 on
unfoldable pub days_of_years : ℕ → ℕ
days_of_years zero = 0
days_of_years (suc before) = days_of_years before + days_in_year before

-- the days of the first months of a year, so many of them
unfoldable pub days_of_months : ℕ → ℕ → ℕ
days_of_months year zero = 0
days_of_months year (suc before) = days_of_months year before + days_in_month year (suc before)

-- the days of the calendar before a date
abbrev pub days_before : Civil → ℕ
days_before date =
    days_of_years date.year + (days_of_months date.year (date.month - 1) + (date.day - 1))

-- the days from one date to another: the first is counted and the last is not
abbrev pub civil_days : Civil → Civil → ℤ
civil_days first last = pos (days_before last) -ℤ pos (days_before first)
