-- Dates that are days of the desk.
use Rattle.std.proofs.Common.{◌≡◌, ℕ, ◌≤◌, Bool, true, false, Some, None, refl, sym, ap, ◌∙◌, arith, ℤ, pos}
use Rattle.std.proofs.lemmas.Bool.Decides.{nat_tests}
use Rattle.jiff.specs.Words.{days_in_month}
use Rattle.muni_rule.specs.Civil.{Civil}
use Rattle.muni_days.specs.Calendar.{is_day}
use Rattle.muni_days.specs.Day.{civil, day_of, day_by, if_day}
use Rattle.muni_days.specs.declared.day.Day.{Day}
use Rattle.muni_days.proofs.DayLemmas.{day_found}

-- a date from the 1st to the 28th
pub record IsEarly (date : Civil) : Type 0 where
  pub year_from : 1900 ≤ date.year
  pub year_to : date.year ≤ 2199
  pub month_from : 1 ≤ date.month
  pub month_to : date.month ≤ 12
  pub day_from : 1 ≤ date.day
  pub day_to : date.day ≤ 28

days_in_month-least : (year : ℤ) (month : ℕ) → 28 ≤ days_in_month year month
days_in_month-least year month = grind (arith, nat_tests)

day-early : (date : Civil) → IsEarly date → is_day date ≡ true
day-early date early =
    let least = days_in_month-least (pos date.year) date.month in
    grind (arith, nat_tests, early.year_from, early.year_to, early.month_from, early.month_to, early.day_from, early.day_to)

-- it is a day
pub early-there : (date : Civil) → IsEarly date → ¬ (None ≡ if_day date)
early-there date early none = let never : None ≡ Some (day_of date (day-early date early)) = none ∙ sym (day_found date (day-early date early)) in cc

civil-by : (date : Civil) (test : Bool) (is : is_day date ≡ test) (day : Day) → Some day ≡ day_by date test is → civil day ≡ date
civil-by date true is day found =
    let same : day ≡ day_of date is = (let both : Some day ≡ Some (day_of date is) = found in cc) in
    ap civil same
civil-by date false is day found = absurd (let never : Some day ≡ None = found in cc)

-- the day of a date has that date
pub civil_found : (date : Civil) (day : Day) → Some day ≡ if_day date → civil day ≡ date
unfolding if_day
civil_found date day found = civil-by date (is_day date) refl day found
