-- What an issue is at a settlement and a redemption.
use Rattle.std.specs.Prelude.{◌≡◌, ℕ, ◌&&◌, ◌⊎◌, Bool, true, List, [], ◌∷◌, map, drop, Option, Some, None, ℤ, pos}
use Rattle.muni_rule.specs.Civil.{Civil, is_before, is_not_after}
use Rattle.muni_rule.specs.DayCount.{days_by}
use Rattle.muni_rule.specs.QuasiDates.{quasi_dates}
use Rattle.muni_rule.specs.Redemptions.{CallEntry, call_days, end_of, last_day}
use Rattle.muni_rule.specs.Terms.{is_call_price}
use Rattle.muni_rule.specs.Accrued.{coupon_accrued_days}
use Rattle.muni_rule.specs.declared.basis.Basis.{Basis}
use Rattle.muni_rule.specs.Payments.{PaymentSeries, coupon_payments, zero_payments, coupon_series, zero_series}
use Rattle.muni_days.specs.Day.{civil}
use Rattle.muni_days.specs.declared.day.Day.{Day}
use Rattle.muni_terms.specs.Check.{is_call_date}
use Rattle.muni_terms.specs.declared.row.Call.{Call}
use Rattle.muni_terms.specs.declared.row.Kind.{Kind}
use Rattle.muni_terms.specs.declared.row.Kind.TheVariants.{Periodic, Zero, AtRedemption, Discount}
use Rattle.muni_terms.specs.declared.row.IssueRow.{IssueRow}

-- the anchor of the quasi-coupon dates, which notes do not have
abbrev pub anchor_by : Kind → Civil → Option Civil
anchor_by (Periodic first) maturity = Some (civil first)
anchor_by Zero maturity = Some maturity
anchor_by AtRedemption maturity = None
anchor_by Discount maturity = None

abbrev pub anchor_of : IssueRow → Option Civil
anchor_of row = anchor_by row.kind (civil row.maturity)

-- the quasi-coupon dates of the issue; notes have none
abbrev pub quasi_dates_by : Option Civil → List Civil
quasi_dates_by None = []
quasi_dates_by (Some anchor) = quasi_dates anchor

abbrev pub quasi_dates_of : IssueRow → List Civil
quasi_dates_of row = quasi_dates_by (anchor_of row)

-- an entry of the call schedule by the rule
abbrev pub entry_of : Call → CallEntry
entry_of call = record { date = civil call.date; price = call.price; term = call.term }

-- the entries of an issue
abbrev pub entries_of : IssueRow → List CallEntry
entries_of row = map entry_of row.calls.items

-- the days on which the first of some calls stands, of the calls from a place on
abbrev pub days_of_first : IssueRow → List Call → List Civil
days_of_first row [] = []
days_of_first row (call ∷ calls) =
    call_days call.term (quasi_dates_of row) (civil call.date)
    (end_of (map entry_of calls) (civil row.maturity))

abbrev pub days_at : IssueRow → ℕ → List Civil
days_at row place = days_of_first row (drop place row.calls.items)

-- the day of the call at a place, or the maturity if there is none
abbrev pub day_at : IssueRow → ℕ → Civil
day_at row place = end_of (map entry_of (drop place row.calls.items)) (civil row.maturity)

-- the day on which it is redeemed for certain: its maturity, or that for which it has been called
abbrev pub last_day_of : IssueRow → Civil
last_day_of row = last_day (entries_of row) (civil row.maturity)

-- a trade settles from the dated date on and before that day
abbrev pub settles : IssueRow → Day → Bool
settles row settlement =
    is_not_after (civil row.dated) (civil settlement)
    && is_before (civil settlement) (last_day_of row)

-- the days for which interest has accrued, by the kind of the issue
abbrev pub accrued_by : Kind → Basis → Civil → Civil → Option ℤ
accrued_by (Periodic first) basis dated settlement =
    coupon_accrued_days dated (civil first) settlement
accrued_by Zero basis dated settlement = Some (pos 0)
accrued_by AtRedemption basis dated settlement = Some (days_by basis dated settlement)
accrued_by Discount basis dated settlement = Some (pos 0)

abbrev pub accrued_days : IssueRow → Day → Option ℤ
accrued_days row settlement = accrued_by row.kind row.basis (civil row.dated) (civil settlement)

-- the issue may be redeemed at maturity at 100, or on a day of its calendar at a price of a call
abbrev pub IsRedemption : IssueRow → Day → ℕ → Type 0
IsRedemption row date price =
    ((date ≡ row.maturity) × (price ≡ 100_000_000))
    ⊎ ((is_call_date row.kind (civil row.dated) (civil row.maturity) (civil date) ≡ true)
    × (is_call_price price ≡ true))

-- the payments after a settlement up to a redemption, by the kind of the issue
abbrev pub payments_by : Kind → IssueRow → Civil → Civil → ℕ → List ℕ
payments_by (Periodic first) row settlement redemption price =
    coupon_payments (civil row.dated) (civil first) row.coupon settlement redemption price
payments_by Zero row settlement redemption price =
    zero_payments (civil row.maturity) settlement redemption price
payments_by AtRedemption row settlement redemption price = []
payments_by Discount row settlement redemption price = []

abbrev pub payments : IssueRow → Day → Day → ℕ → List ℕ
payments row settlement redemption price =
    payments_by row.kind row (civil settlement) (civil redemption) price

-- these payments as numbers
abbrev pub series_by : Kind → IssueRow → Civil → Civil → ℕ → Option PaymentSeries
series_by (Periodic first) row settlement redemption price =
    coupon_series (civil row.dated) (civil first) row.coupon settlement redemption price
series_by Zero row settlement redemption price =
    zero_series (civil row.maturity) settlement redemption price
series_by AtRedemption row settlement redemption price = None
series_by Discount row settlement redemption price = None

abbrev pub series_of : IssueRow → Day → Day → ℕ → Option PaymentSeries
series_of row settlement redemption price =
    series_by row.kind row (civil settlement) (civil redemption) price
