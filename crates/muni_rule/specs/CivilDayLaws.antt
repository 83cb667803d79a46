-- The count of civil days in the calendar's own words.
use Rattle.std.specs.Prelude.{◌≡◌, ◌+◌, ◌<◌, ◌⊎◌, pos, ◌+ℤ◌, ◌<ℤ◌}
use Rattle.muni_rule.specs.Civil.{Civil, IsOfCalendar, order_of, days_in_month, civil_days}

-- one date is the day after another: the next of its month, or the first of the next month after
-- the last of its month, or New Year's Day after the 31st of December
abbrev pub IsDayAfter : Civil → Civil → Type 0
IsDayAfter date next =
    ((next.year ≡ date.year) × (next.month ≡ date.month) × (next.day ≡ date.day + 1))
    ⊎ (((next.year ≡ date.year) × (next.month ≡ date.month + 1)
    × (date.day ≡ days_in_month date.year date.month) × (next.day ≡ 1))
    ⊎ ((next.year ≡ date.year + 1) × (date.month ≡ 12) × (date.day ≡ 31)
    × (next.month ≡ 1) × (next.day ≡ 1)))

-- it is one day later
abbrev pub NextDayIsOneMore : Type 0
NextDayIsOneMore =
    (date next : Civil) → IsOfCalendar date → IsDayAfter date next → civil_days date next ≡ pos 1

-- the days to a date and those from it on are all
abbrev pub CivilDaysAdd : Type 0
CivilDaysAdd =
    (first middle last : Civil)
    → (civil_days first middle +ℤ civil_days middle last) ≡ civil_days first last

-- and a later date is some days later
abbrev pub CivilDaysRise : Type 0
CivilDaysRise =
    (date later : Civil) → IsOfCalendar date → IsOfCalendar later
    → order_of date < order_of later → pos 0 <ℤ civil_days date later
