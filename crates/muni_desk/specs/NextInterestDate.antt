-- The next interest date of a security in its last interest period.
use Rattle.std.specs.Prelude.{◌&&◌, Bool, nat_le, if◌then◌else◌, Option, Some, None}
use Rattle.muni_rule.specs.Civil.{Civil}
use Rattle.muni_days.specs.Day.{civil}
use Rattle.muni_days.specs.declared.day.Day.{Day}

-- it has a day that every month has, and is not before 1902-01-01
abbrev pub is_next : Civil → Bool
is_next date = nat_le date.day 28 && nat_le 1902 date.year

-- a date, if it can be one
abbrev pub if_next : Day → Option Day
if_next date = if is_next (civil date) then Some date else None
