-- REGULAR: an odd first coupon is taken as a regular one. The first interest is that of half a year, and it accrues
-- from the quasi-coupon date on or before the dated date.
use Rattle.std.specs.Prelude.{◌≡◌, MatchOption, Option, Some, None, option_map, option_and_then, pos}
use Rattle.muni_rule.specs.Civil.{months_on}
use Rattle.muni_rule.specs.QuasiDates.{last_quasi_date}
use Rattle.muni_days.specs.Day.{civil, if_day}
use Rattle.muni_days.specs.declared.day.Day.{Day}
use Rattle.muni_terms.specs.declared.row.IssueRow.{IssueRow}
use Rattle.muni_terms.specs.declared.row.Kind.{Kind}
use Rattle.muni_terms.specs.declared.row.Kind.TheVariants.{Periodic, Zero, AtRedemption, Discount}
use Rattle.muni_msg.specs.declared.asked.Asked.{Asked}
use Rattle.muni_msg.specs.declared.figures.Figures.{Figures}
use Rattle.muni_readings.specs.OtherTerms.{Ends, IsOver}

-- the last quasi-coupon date that is not after a day
abbrev pub quasi_day : Day → Day → Option Day
quasi_day anchor day = option_and_then if_day (last_quasi_date (civil anchor) (civil day))

-- the terms of an issue that is dated on a day, and pays its first interest six months later
abbrev pub dated_on : IssueRow → Day → Option IssueRow
dated_on row dated =
    option_map (λ first. record row { kind = Periodic first; dated = dated })
    (if_day (months_on (civil dated) (pos 6)))

-- so it is regular from the quasi-coupon date on or before its dated date; others have no first coupon
abbrev pub regular_by : Kind → IssueRow → Option IssueRow
regular_by (Periodic first) row = option_and_then (dated_on row) (quasi_day first row.dated)
regular_by Zero row = Some row
regular_by AtRedemption row = Some row
regular_by Discount row = Some row

abbrev pub regular_terms : IssueRow → Option IssueRow
regular_terms row = regular_by row.kind row

-- the figures over these terms, and none if the desk has not both days
abbrev pub IsByRegular : Ends → IssueRow → Asked → Option Figures → Type 0
IsByRegular ends row asked theirs =
    MatchOption (regular_terms row) (theirs ≡ None) (λ regular. IsOver ends regular asked theirs)
