-- What the crates above need to know of every day.
use Rattle.std.proofs.Common.{◌≡◌, true, ℕ, ◌≤◌, ℤ, pos, arith}
use Rattle.std.proofs.lemmas.Bool.Decides.{nat_tests}
use Rattle.jiff.specs.Words.{days_in_month}
use Rattle.muni_rule.specs.Civil.{Civil, IsCivil, IsOfCalendar}
use Rattle.muni_days.specs.Calendar.{is_day}
use Rattle.muni_days.specs.Day.{civil}
use Rattle.muni_days.specs.declared.day.Day.{Day}

days_in_month-most : (year : ℤ) (month : ℕ) → days_in_month year month ≤ 31
days_in_month-most year month = grind (arith, nat_tests)

-- a date of the desk: its month and its day are those of a date, and its year is in range
pub record IsOfDesk (date : Civil) : Type 0 where
  pub civil : IsCivil date
  pub year_from : 1900 ≤ date.year
  pub year_to : date.year ≤ 2199

of_desk : (date : Civil) → is_day date ≡ true → IsOfDesk date
of_desk date real =
    let most = days_in_month-most (pos date.year) date.month in
    record {
      civil = record { month_from = grind (arith, nat_tests); month_to = grind (arith, nat_tests); day_from = grind (arith, nat_tests); day_to = grind (arith, nat_tests) };
      year_from = grind (arith, nat_tests);
      year_to = grind (arith, nat_tests);
    }

-- every day's date
pub is_of_desk : (day : Day) → IsOfDesk (civil day)
is_of_desk day = of_desk (civil day) day.real

pub is_civil : (day : Day) → IsCivil (civil day)
is_civil day = (is_of_desk day).civil

-- and the calendar has it
of_calendar : (date : Civil) → is_day date ≡ true → IsOfCalendar date
of_calendar date real = record { month_from = grind (arith, nat_tests); month_to = grind (arith, nat_tests); day_from = grind (arith, nat_tests); day_to = grind (arith, nat_tests) }

pub is_of_calendar : (day : Day) → IsOfCalendar (civil day)
is_of_calendar day = of_calendar (civil day) day.real
