-- FEBRUARY: the days of accrued interest are counted by 30/360 with a rule for the end of February. Such a count
-- mostly stands in the accounts of a firm and not in its calculator, so price and yield are those of the rule.
use Rattle.std.specs.Prelude.{ℕ, ◌==◌, ◌&&◌, Bool, if◌then◌else◌, Option, Some, None, option_and_then, ℤ, pos, ◌-ℤ◌, int_le}
use Rattle.muni_rule.specs.Civil.{Civil, days_in_month, is_before}
use Rattle.muni_rule.specs.DayCount.{first_counted, last_counted, days_up_to}
use Rattle.muni_rule.specs.declared.basis.Basis.{Basis}
use Rattle.muni_rule.specs.declared.basis.Basis.TheVariants.{Thirty360, Actual365}
use Rattle.muni_days.specs.Day.{civil}
use Rattle.muni_days.specs.declared.day.Day.{Day}
use Rattle.muni_terms.specs.Issue.{settles}
use Rattle.muni_terms.specs.declared.row.IssueRow.{IssueRow}
use Rattle.muni_terms.specs.declared.row.Kind.{Kind}
use Rattle.muni_terms.specs.declared.row.Kind.TheVariants as kind
use Rattle.muni_msg.specs.declared.asked.Asked.{Asked}
use Rattle.muni_msg.specs.declared.figures.Figures.{Figures}
use Rattle.muni_readings.specs.Money.{with_days}
use Rattle.muni_readings.specs.Regular.{quasi_day}

-- a date is the last of February
abbrev pub ends_february : Civil → Bool
ends_february date = (date.month == 2) && (date.day == days_in_month date.year 2)

-- the day that begins a count: the last of February counts as the 30th too
abbrev pub february_first : Civil → ℕ
february_first date = if ends_february date then 30 else first_counted date.day

-- the days from one date to another: the day that ends the count goes by the first date as it is written
abbrev pub february_days : Civil → Civil → ℤ
february_days first last =
    pos (days_up_to last (last_counted first.day last.day))
    -ℤ pos (days_up_to first (february_first first))

-- the day from which a coupon has accrued: before the first interest date the dated date, and from it on the last
-- quasi-coupon date
abbrev pub coupon_start : Day → Day → Day → Option Day
coupon_start first dated settlement =
    if is_before (civil settlement) (civil first) then Some dated else quasi_day first settlement

-- the day from which interest has accrued, if any is paid
abbrev pub accrual_start_by : Kind → Day → Day → Option Day
accrual_start_by (kind.Periodic first) dated settlement = coupon_start first dated settlement
accrual_start_by kind.Zero dated settlement = None
accrual_start_by kind.AtRedemption dated settlement = Some dated
accrual_start_by kind.Discount dated settlement = None

-- by 30/360
abbrev pub accrual_start : Basis → Kind → Day → Day → Option Day
accrual_start Thirty360 kind dated settlement = accrual_start_by kind dated settlement
accrual_start Actual365 kind dated settlement = None

-- a count from 0 to 720
abbrev pub if_counted : ℤ → Option ℤ
if_counted days = if int_le (pos 0) days && int_le days (pos 720) then Some days else None

-- the days of accrued interest, if any accrues by 30/360
abbrev pub february_accrued_days : IssueRow → Day → Option ℤ
february_accrued_days row settlement =
    if settles row settlement then
    option_and_then (λ start. if_counted (february_days (civil start) (civil settlement)))
    (accrual_start row.basis row.kind row.dated settlement)
    else None

-- the figures with these days
abbrev pub by_february : IssueRow → Asked → Figures → Option Figures
by_february row asked figures =
    option_and_then (λ days. with_days row asked days figures)
    (february_accrued_days row asked.settle)
