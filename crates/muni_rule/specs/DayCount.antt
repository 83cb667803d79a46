-- The day counts: 30/360 (MSRB Rule G-33(e)), where a month counts 30 days and a year, the rule's B, 360,
-- and for notes also actual/365, the days of the calendar and a year of 365.
use Rattle.std.specs.Prelude.{ℕ, ◌+◌, ◌*◌, ◌==◌, ◌&&◌, ◌||◌, if◌then◌else◌, ℤ, pos, ◌-ℤ◌}
use Rattle.muni_rule.specs.Civil.{Civil, civil_days}
use Rattle.muni_rule.specs.declared.basis.Basis.{Basis}
use Rattle.muni_rule.specs.declared.basis.Basis.TheVariants.{Thirty360, Actual365}

-- the day that begins a count: the 31st counts as the 30th
abbrev pub first_counted : ℕ → ℕ
first_counted first = if first == 31 then 30 else first

-- the day that ends a count: the 31st counts as the 30th if the count begins on a 30th or a 31st
abbrev pub last_counted : ℕ → ℕ → ℕ
last_counted first last = if (last == 31) && ((first == 30) || (first == 31)) then 30 else last

-- the days of 30/360 from the year 0 up to this day of a date's month
abbrev pub days_up_to : Civil → ℕ → ℕ
days_up_to date day = date.year * 360 + date.month * 30 + day

-- the days from one date to another, (Y2 - Y1) * 360 + (M2 - M1) * 30 + (D2 - D1): the first day is
-- counted and the last is not. The market calls it 30/360, 30/360 US or bond basis, with no rule for
-- the end of February. It is not 30E/360, where every 31st counts as the 30th.
abbrev pub days360 : Civil → Civil → ℤ
days360 first last =
    pos (days_up_to last (last_counted first.day last.day))
    -ℤ pos (days_up_to first (first_counted first.day))

-- B, the days of a year
abbrev pub year_of : Basis → ℕ
year_of Thirty360 = 360
year_of Actual365 = 365

-- the days from one date to another
abbrev pub days_by : Basis → Civil → Civil → ℤ
days_by Thirty360 first last = days360 first last
days_by Actual365 first last = civil_days first last
