-- The count of days by each basis is not negative, rises with the day that ends it, and falls with the
-- day that begins it.
use Rattle.std.proofs.Common.{◌≡◌, ◌≢◌, ℕ, ◌+◌, ◌<◌, ◌≤◌, min, arith, inl, inr, pos, ◌≤ℤ◌, subst, sym}
use Rattle.std.proofs.lemmas.Int.{ints}
use Rattle.std.proofs.lemmas.Bool.{cases_eq, cases_lt}
use Rattle.std.proofs.lemmas.Bool.Decides.{nat_tests}
use Rattle.muni_rule.specs.Civil.{Civil, IsCivil, IsOfCalendar, order_of}
use Rattle.muni_rule.specs.DayCount.{days360, days_by, first_counted, last_counted, days_up_to}
use Rattle.muni_rule.specs.declared.basis.Basis.{Basis}
use Rattle.muni_rule.specs.declared.basis.Basis.TheVariants.{Thirty360, Actual365}
use Rattle.muni_rule.proofs.CivilDayLemmas.{days_in_month-most, days_before-up}

last_counted-most : (first last : ℕ) → last_counted first last ≤ last
last_counted-most first last = grind (arith, nat_tests)

last_counted-least : (first last : ℕ) → min last 30 ≤ last_counted first last
last_counted-least first last = grind (arith, nat_tests)

first_counted-most : (first : ℕ) → first ≤ 31 → (first_counted first ≤ first) × (first_counted first ≤ 30)
first_counted-most first most = (grind (arith, nat_tests), grind (arith, nat_tests))

days_up_to-rise : (first : ℕ) (date later : Civil) → IsCivil date → IsCivil later → order_of date ≤ order_of later → days_up_to date (last_counted first date.day) ≤ days_up_to later (last_counted first later.day)
days_up_to-rise first date later civil later_civil order =
    elim (cases_eq date.day later.day) [
      | inl same ↦ rw same (omega arith)
      | inr other ↦ omega (arith, last_counted-most first date.day, last_counted-least first later.day, last_counted-least first date.day)
    ]

days_up_to-first : (date later : Civil) → IsCivil date → IsCivil later → order_of date ≤ order_of later → days_up_to date (first_counted date.day) ≤ days_up_to later (last_counted date.day later.day)
days_up_to-first date later civil later_civil order =
    let most = first_counted-most date.day civil.day_to in
    omega (arith, last_counted-least date.day later.day)

pub days360-not_negative : (date later : Civil) → IsCivil date → IsCivil later → order_of date ≤ order_of later → pos 0 ≤ℤ days360 date later
days360-not_negative date later civil later_civil order =
    let up_to = days_up_to-first date later civil later_civil order in
    omega (arith, ints)

pub days360-rise : (first date later : Civil) → IsCivil date → IsCivil later → order_of date ≤ order_of later → days360 first date ≤ℤ days360 first later
days360-rise first date later civil later_civil order =
    let up_to = days_up_to-rise first.day date later civil later_civil order in
    omega (arith, ints)

-- a count that begins later is not longer
first_counted-is : (first : ℕ) → first ≤ 31 → first_counted first ≡ min first 30
first_counted-is first most = grind (arith, nat_tests)

last_counted-other : (first last : ℕ) → last ≢ 31 → last_counted first last ≡ last
last_counted-other first last other = grind (arith, nat_tests)

last_counted-early : (first : ℕ) → first < 30 → last_counted first 31 ≡ 31
last_counted-early first early = grind (arith, nat_tests)

last_counted-late : (first : ℕ) → 30 ≤ first → first ≤ 31 → last_counted first 31 ≡ 30
last_counted-late first late most = grind (arith, nat_tests)

days_up_to-apart : (date later : Civil) (last : ℕ) → IsCivil date → IsCivil later → order_of date ≤ order_of later → days_up_to date (first_counted date.day) + last_counted later.day last ≤ days_up_to later (first_counted later.day) + last_counted date.day last
days_up_to-apart date later last civil later_civil order =
    elim (cases_eq last 31) [
      | inl end ↦ subst (λ (x : ℕ). days_up_to date (first_counted date.day) + last_counted later.day x ≤ days_up_to later (first_counted later.day) + last_counted date.day x) (sym end)
          (elim (cases_lt later.day 30) [
            | inl early ↦ elim (cases_lt date.day 30) [
              | inl early_too ↦ rw (last_counted-early later.day early, last_counted-early date.day early_too, first_counted-is date.day civil.day_to, first_counted-is later.day later_civil.day_to) (omega (arith, civil, later_civil))
              | inr late ↦ rw (last_counted-early later.day early, last_counted-late date.day late civil.day_to, first_counted-is date.day civil.day_to, first_counted-is later.day later_civil.day_to) (omega (arith, civil, later_civil))
            ]
            | inr late ↦ rw (last_counted-late later.day late later_civil.day_to, first_counted-is date.day civil.day_to, first_counted-is later.day later_civil.day_to) (omega (arith, civil, later_civil, last_counted-least date.day 31))
          ])
      | inr other ↦ rw (last_counted-other later.day last other, last_counted-other date.day last other, first_counted-is date.day civil.day_to, first_counted-is later.day later_civil.day_to) (omega (arith, civil, later_civil))
    ]

pub days360-fall : (date later last : Civil) → IsCivil date → IsCivil later → order_of date ≤ order_of later → days360 later last ≤ℤ days360 date last
days360-fall date later last civil later_civil order =
    let apart = days_up_to-apart date later last.day civil later_civil order in
    omega (arith, ints)

-- by each basis
pub of_calendar : (date : Civil) → IsOfCalendar date → IsCivil date
of_calendar date is =
    let to = is.day_to in
    let most = days_in_month-most date.year date.month in
    record { month_from = is.month_from; month_to = is.month_to; day_from = is.day_from; day_to = omega (arith, to, most) }

pub days_by-not_negative : (basis : Basis) (date later : Civil) → IsOfCalendar date → IsOfCalendar later → order_of date ≤ order_of later → pos 0 ≤ℤ days_by basis date later
days_by-not_negative Thirty360 date later is other order = days360-not_negative date later (of_calendar date is) (of_calendar later other) order
days_by-not_negative Actual365 date later is other order = let up = days_before-up date later is other order in omega (arith, ints, up)

pub days_by-rise : (basis : Basis) (first date later : Civil) → IsOfCalendar date → IsOfCalendar later → order_of date ≤ order_of later → days_by basis first date ≤ℤ days_by basis first later
days_by-rise Thirty360 first date later is other order = days360-rise first date later (of_calendar date is) (of_calendar later other) order
days_by-rise Actual365 first date later is other order = let up = days_before-up date later is other order in omega (arith, ints, up)

pub days_by-fall : (basis : Basis) (date later last : Civil) → IsOfCalendar date → IsOfCalendar later → order_of date ≤ order_of later → days_by basis later last ≤ℤ days_by basis date last
days_by-fall Thirty360 date later last is other order = days360-fall date later last (of_calendar date is) (of_calendar later other) order
days_by-fall Actual365 date later last is other order = let up = days_before-up date later is other order in omega (arith, ints, up)
