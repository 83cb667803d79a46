-- The days that the desk has.
use Rattle.std.specs.Prelude.{◌&&◌, Bool, nat_le, pos}
use Rattle.jiff.specs.Words.{days_in_month}
use Rattle.muni_rule.specs.Civil.{Civil}

-- the calendar has this day, in a year from 1900 to 2199
abbrev pub is_day : Civil → Bool
is_day date =
    nat_le 1900 date.year && (nat_le date.year 2199
    && (nat_le 1 date.month && (nat_le date.month 12
    && (nat_le 1 date.day && nat_le date.day (days_in_month (pos date.year) date.month)))))
