-- Civil days: each day counts one, and they rise with the date.
use Rattle.std.proofs.Common.{◌≡◌, ℕ, zero, suc, ◌+◌, ◌-◌, ◌<◌, ◌≤◌, Bool, true, false, cond, inl, inr, pos, arith, refl, subst}
use Rattle.std.proofs.lemmas.Int.{ints}
use Rattle.std.proofs.lemmas.Bool.{cases_lt}
use Rattle.std.proofs.lemmas.Bool.Decides.{nat_tests}
use Rattle.muni_rule.specs.Civil.{Civil, IsOfCalendar, order_of, is_leap_year, days_in_month, days_in_year, days_of_years, days_of_months, days_before, civil_days}
use Rattle.muni_rule.specs.CivilDayLaws.{NextDayIsOneMore, CivilDaysAdd, CivilDaysRise}

pub days_in_month-most : (year month : ℕ) → days_in_month year month ≤ 31
days_in_month-most year month = grind (arith, nat_tests)

-- ---- the days of whole months and years
days_of_years-more : (year : ℕ) → days_of_years (year + 1) ≡ days_of_years year + days_in_year year
unfolding days_of_years
days_of_years-more year = (let next : year + 1 ≡ suc year = omega arith in rw next refl)

days_of_months-more : (year month : ℕ) → days_of_months year (month + 1) ≡ days_of_months year month + days_in_month year (month + 1)
unfolding days_of_months
days_of_months-more year month = (let next : month + 1 ≡ suc month = omega arith in rw next refl)

months-none : (year : ℕ) → days_of_months year 0 ≡ 0
unfolding days_of_months
months-none year = refl

-- the months of a year are its days
year_sum : (leap : Bool) → 31 + (cond leap 29 28) + 31 + 30 + 31 + 30 + 31 + 31 + 30 + 31 + 30 + 31 ≡ cond leap 366 365
year_sum true = refl
year_sum false = refl

days_of_months-all : (year : ℕ) → days_of_months year 12 ≡ days_in_year year
unfolding days_of_months
days_of_months-all year = year_sum (is_leap_year year)

days_of_years-rise : (year later : ℕ) → year ≤ later → days_of_years year ≤ days_of_years later
unfolding days_of_years
days_of_years-rise year zero order = (let none : year ≡ 0 = omega arith in rw none (omega arith))
days_of_years-rise year (suc later) order =
    elim (cases_lt later year) [
      | inl last ↦ (let same : year ≡ suc later = omega arith in rw same (omega arith))
      | inr before ↦ (let rise = days_of_years-rise year later before in omega arith)
    ]

days_of_months-rise : (year month later : ℕ) → month ≤ later → days_of_months year month ≤ days_of_months year later
unfolding days_of_months
days_of_months-rise year month zero order = (let none : month ≡ 0 = omega arith in rw none (omega arith))
days_of_months-rise year month (suc later) order =
    elim (cases_lt later month) [
      | inl last ↦ (let same : month ≡ suc later = omega arith in rw same (omega arith))
      | inr before ↦ (let rise = days_of_months-rise year month later before in omega arith)
    ]

-- ---- the days before a date
month-of : (date : Civil) → IsOfCalendar date → date.month - 1 + 1 ≡ date.month
month-of date is = let from = is.month_from in omega arith

-- they end before the next month begins
within_month : (date : Civil) → IsOfCalendar date → days_of_months date.year (date.month - 1) + (date.day - 1) < days_of_months date.year date.month
within_month date is =
    let more = days_of_months-more date.year (date.month - 1) in
    let all : days_of_months date.year date.month ≡ days_of_months date.year (date.month - 1) + days_in_month date.year date.month
    = subst (λ (month : ℕ). days_of_months date.year month ≡ days_of_months date.year (date.month - 1) + days_in_month date.year month) (month-of date is) more in
    let from = is.day_from in
    let to = is.day_to in
    omega (arith, all, from, to)

-- and so before the next year
within_year : (date : Civil) → IsOfCalendar date → days_before date < days_of_years (date.year + 1)
within_year date is =
    let month = within_month date is in
    let rise = days_of_months-rise date.year date.month 12 is.month_to in
    let all = days_of_months-all date.year in
    let more = days_of_years-more date.year in
    omega (arith, month, rise, all, more)

-- ---- they rise
year-later : (date later : Civil) → IsOfCalendar date → date.year < later.year → days_before date < days_before later
year-later date later is less =
    let within = within_year date is in
    let rise = days_of_years-rise (date.year + 1) later.year (omega arith) in
    omega (arith, within, rise)

month-later : (date later : Civil) → IsOfCalendar date → IsOfCalendar later → date.year ≡ later.year → date.month < later.month → days_before date < days_before later
month-later date later is other same less =
    let within = within_month date is in
    let rise = days_of_months-rise date.year date.month (later.month - 1) (omega arith) in
    rw (← same) (omega (arith, within, rise))

day-later : (date later : Civil) → IsOfCalendar date → date.year ≡ later.year → date.month ≡ later.month → date.day < later.day → days_before date < days_before later
day-later date later is same month less =
    let from = is.day_from in
    rw (← same, ← month) (omega (arith, from))

order-month : (date later : Civil) → IsOfCalendar date → IsOfCalendar later → order_of date < order_of later → date.year ≡ later.year → later.month ≤ date.month → (date.month ≡ later.month) × (date.day < later.day)
order-month date later is other order same most =
    let day = days_in_month-most later.year later.month in
    let to = other.day_to in
    let from = is.day_from in
    (omega arith, omega arith)

order-year : (date later : Civil) → IsOfCalendar date → IsOfCalendar later → order_of date < order_of later → later.year ≤ date.year → date.year ≡ later.year
order-year date later is other order most =
    let day = days_in_month-most later.year later.month in
    let to = other.day_to in
    let from = is.day_from in
    let month_from = is.month_from in
    let month_to = other.month_to in
    omega arith

pub days_before-rise : (date later : Civil) → IsOfCalendar date → IsOfCalendar later → order_of date < order_of later → days_before date < days_before later
days_before-rise date later is other order =
    elim (cases_lt date.year later.year) [
      | inl less ↦ year-later date later is less
      | inr most ↦
          let same = order-year date later is other order most in
          elim (cases_lt date.month later.month) [
            | inl less ↦ month-later date later is other same less
            | inr rest ↦
                let in_month = order-month date later is other order same rest in
                day-later date later is same in_month.0 in_month.1
          ]
    ]

-- dates at one place in the order are one date
same-place : (date later : Civil) → IsOfCalendar date → IsOfCalendar later → order_of date ≡ order_of later → days_before date ≡ days_before later
same-place date later is other same =
    let most = days_in_month-most date.year date.month in
    let most_later = days_in_month-most later.year later.month in
    let from = is.day_from in
    let to = is.day_to in
    let from_later = other.day_from in
    let to_later = other.day_to in
    let month_from = is.month_from in
    let month_to = is.month_to in
    let month_from_later = other.month_from in
    let month_to_later = other.month_to in
    let year : date.year ≡ later.year = omega arith in
    let month : date.month ≡ later.month = omega arith in
    let day : date.day ≡ later.day = omega arith in
    rw (year, month, day) refl

pub days_before-up : (date later : Civil) → IsOfCalendar date → IsOfCalendar later → order_of date ≤ order_of later → days_before date ≤ days_before later
days_before-up date later is other order =
    elim (cases_lt (order_of date) (order_of later)) [
      | inl less ↦ (let rise = days_before-rise date later is other less in omega (arith, rise))
      | inr most ↦ (let same = same-place date later is other (omega arith) in omega (arith, same))
    ]

pub civil_days-rise : CivilDaysRise
civil_days-rise date later is other order =
    let rise = days_before-rise date later is other order in
    omega (arith, ints, rise)

pub civil_days-add : CivilDaysAdd
civil_days-add first middle last = omega (arith, ints)

-- ---- each day counts one
one-more : (date next : Civil) → days_before next ≡ days_before date + 1 → civil_days date next ≡ pos 1
one-more date next is = omega (arith, ints, is)

next_day : (date next : Civil) → IsOfCalendar date → next.year ≡ date.year → next.month ≡ date.month → next.day ≡ date.day + 1 → days_before next ≡ days_before date + 1
next_day date next is year month day =
    let from = is.day_from in
    rw (year, month, day) (omega (arith, from))

next_month : (date next : Civil) → IsOfCalendar date → next.year ≡ date.year → next.month ≡ date.month + 1 → date.day ≡ days_in_month date.year date.month → next.day ≡ 1 → days_before next ≡ days_before date + 1
next_month date next is year month last day =
    let from = is.day_from in
    let before : date.month + 1 - 1 ≡ date.month = omega arith in
    let more = days_of_months-more date.year (date.month - 1) in
    let all : days_of_months date.year date.month ≡ days_of_months date.year (date.month - 1) + days_in_month date.year date.month
    = subst (λ (m : ℕ). days_of_months date.year m ≡ days_of_months date.year (date.month - 1) + days_in_month date.year m) (month-of date is) more in
    rw (year, month, day, before) (omega (arith, from, last, all))

next_year : (date next : Civil) → next.year ≡ date.year + 1 → date.month ≡ 12 → date.day ≡ 31 → next.month ≡ 1 → next.day ≡ 1 → days_before next ≡ days_before date + 1
next_year date next year december last month day =
    let more = days_of_years-more date.year in
    let none : days_of_months (date.year + 1) 0 ≡ 0 = months-none (date.year + 1) in
    let months = days_of_months-all date.year in
    let end = days_of_months-more date.year 11 in
    rw (year, december, last, month, day) (omega (arith, more, none, months, end))

pub next_day-one : NextDayIsOneMore
next_day-one date next is (inl day) = one-more date next (next_day date next is day.0 day.1 day.2)
next_day-one date next is (inr (inl month)) = one-more date next (next_month date next is month.0 month.1 month.2 month.3)
next_day-one date next is (inr (inr year)) = one-more date next (next_year date next year.0 year.1 year.2 year.3 year.4)
