-- Which rows are issues: the tests in their order, and the fault that each finds.
use Rattle.std.specs.Prelude.{not, ◌&&◌, ◌==◌, Bool, true, false, nat_lt, if◌then◌else◌, List, [], ◌∷◌, length, Option, Some, None, Result, Ok, Err}
use Rattle.muni_rule.specs.Civil.{Civil, is_before, is_not_after}
use Rattle.muni_rule.specs.QuasiDates.{is_quasi_date}
use Rattle.muni_rule.specs.Cusip.{is_cusip}
use Rattle.muni_rule.specs.Redemptions.{is_certain}
use Rattle.muni_rule.specs.declared.basis.Basis.{Basis}
use Rattle.muni_rule.specs.Terms.{is_name, is_dated_date, is_interest_day, is_basis_of_bonds, is_first_interest_short, is_series_short, is_note_short, is_coupon_call_date, is_zero_call_date, is_call_price}
use Rattle.muni_days.specs.Day.{civil}
use Rattle.muni_days.specs.declared.day.Day.{Day}
use Rattle.muni_terms.specs.declared.row.Call.{Call}
use Rattle.muni_terms.specs.declared.row.Kind.{Kind}
use Rattle.muni_terms.specs.declared.row.Kind.TheVariants.{Periodic, Zero, AtRedemption, Discount}
use Rattle.muni_terms.specs.declared.row.IssueRow.{IssueRow}
use Rattle.muni_terms.specs.declared.row.TermsFault.{TermsFault}
use Rattle.muni_terms.specs.declared.row.TermsFault.TheVariants.{BadCusip, BadOrder, BadDay, BadCoupon, FirstTooLong, CallOffCalendar, CallsNotRising, BadCallPrice, TooLong, BadName, BadBasis, CalledNotLast}

-- interest is first paid after the dated date and up to maturity, which is after the dated date
abbrev pub are_in_order : Kind → Civil → Civil → Bool
are_in_order (Periodic first) dated maturity =
    is_before dated (civil first) && is_not_after (civil first) maturity
are_in_order Zero dated maturity = is_before dated maturity
are_in_order AtRedemption dated maturity = is_before dated maturity
are_in_order Discount dated maturity = is_before dated maturity

abbrev pub has_order : IssueRow → Bool
has_order row =
    is_dated_date (civil row.dated) && are_in_order row.kind (civil row.dated) (civil row.maturity)

-- quasi-coupon dates fall on a day that every month has, and maturity is one of them
abbrev pub falls_on_day : Kind → Civil → Bool
falls_on_day (Periodic first) maturity =
    is_interest_day (civil first) && is_quasi_date (civil first) maturity
falls_on_day Zero maturity = is_interest_day maturity
falls_on_day AtRedemption maturity = true
falls_on_day Discount maturity = true

abbrev pub has_day : IssueRow → Bool
has_day row = falls_on_day row.kind (civil row.maturity)

-- issues of this kind pay interest
abbrev pub pays_interest : Kind → Bool
pays_interest (Periodic first) = true
pays_interest Zero = false
pays_interest AtRedemption = true
pays_interest Discount = false

-- there is a coupon exactly if there is interest
abbrev pub has_coupon : IssueRow → Bool
has_coupon row = if pays_interest row.kind then nat_lt 0 row.coupon else row.coupon == 0

-- only notes count days by actual/365
abbrev pub counts_by : Kind → Basis → Bool
counts_by (Periodic first) basis = is_basis_of_bonds basis
counts_by Zero basis = is_basis_of_bonds basis
counts_by AtRedemption basis = true
counts_by Discount basis = true

abbrev pub has_basis : IssueRow → Bool
has_basis row = counts_by row.kind row.basis

-- the first interest is for 360 days at most
abbrev pub starts_soon : Kind → Civil → Bool
starts_soon (Periodic first) dated = is_first_interest_short dated (civil first)
starts_soon Zero dated = true
starts_soon AtRedemption dated = true
starts_soon Discount dated = true

abbrev pub has_short_start : IssueRow → Bool
has_short_start row = starts_soon row.kind (civil row.dated)

-- the quasi-coupon dates are 100 at most, and a note runs 720 days at most
abbrev pub ends_soon : Kind → Basis → Civil → Civil → Bool
ends_soon (Periodic first) basis dated maturity = is_series_short (civil first) dated maturity
ends_soon Zero basis dated maturity = is_series_short maturity dated maturity
ends_soon AtRedemption basis dated maturity = is_note_short basis dated maturity
ends_soon Discount basis dated maturity = is_note_short basis dated maturity

abbrev pub has_short_term : IssueRow → Bool
has_short_term row = ends_soon row.kind row.basis (civil row.dated) (civil row.maturity)

-- an issue of this kind can be called on a date; notes cannot be called
abbrev pub is_call_date : Kind → Civil → Civil → Civil → Bool
is_call_date (Periodic first) dated maturity date = is_coupon_call_date (civil first) maturity date
is_call_date Zero dated maturity date = is_zero_call_date dated maturity date
is_call_date AtRedemption dated maturity date = false
is_call_date Discount dated maturity date = false

-- a call is after the one before it, if there is one
abbrev pub rises : Option Day → Day → Bool
rises None date = true
rises (Some before) date = is_before (civil before) (civil date)

-- what is wrong with a call that stands after another, if there is one before it
abbrev pub call_fault : IssueRow → Option Day → Call → Option TermsFault
call_fault row before call =
    if not (is_call_date row.kind (civil row.dated) (civil row.maturity) (civil call.date))
    then Some (CallOffCalendar call.date)
    else (if not (rises before call.date) then Some (CallsNotRising call.date)
    else (if not (is_call_price call.price) then Some (BadCallPrice call.date)
    else None))

-- the first fault, or else the second
abbrev pub first_fault : Option TermsFault → Option TermsFault → Option TermsFault
first_fault None other = other
first_fault (Some fault) other = Some fault

-- what is wrong with the calls: the first fault of the first call that has one
abbrev pub calls_fault : IssueRow → Option Day → List Call → Option TermsFault
calls_fault row before [] = None
calls_fault row before (call ∷ calls) =
    first_fault (call_fault row before call) (calls_fault row (Some call.date) calls)

-- that a call is certain and not the last: of the first such call
abbrev pub certain_fault : List Call → Option TermsFault
certain_fault [] = None
certain_fault (call ∷ calls) =
    if is_certain call.term && nat_lt 0 (length calls) then Some (CalledNotLast call.date)
    else certain_fault calls

-- what is wrong with the rest of a row
unfoldable pub early_fault : IssueRow → Option TermsFault
early_fault row =
    if not (is_cusip row.cusip) then Some BadCusip
    else (if not (is_name row.name.items) then Some BadName
    else (if not (has_order row) then Some BadOrder
    else (if not (has_day row) then Some BadDay
    else (if not (has_coupon row) then Some BadCoupon
    else (if not (has_basis row) then Some BadBasis
    else (if not (has_short_start row) then Some FirstTooLong
    else (if not (has_short_term row) then Some TooLong
    else None)))))))

-- what is wrong with a row: the fault of the first test that fails
unfoldable pub fault_of : IssueRow → Option TermsFault
fault_of row =
    first_fault (early_fault row)
    (first_fault (calls_fault row None row.calls.items) (certain_fault row.calls.items))

-- a row, or its fault
abbrev pub unless_fault : IssueRow → Option TermsFault → Result IssueRow TermsFault
unless_fault row None = Ok row
unless_fault row (Some fault) = Err fault

-- a row that passes every test, or the fault of the first that fails
abbrev pub checked : IssueRow → Result IssueRow TermsFault
checked row = unless_fault row (fault_of row)
