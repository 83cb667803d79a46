-- The days on which the calls of an issue stand: each is a day of its calendar, and there is room for all.
use Rattle.std.proofs.Common.{◌≡◌, ℕ, ◌+◌, ◌-◌, ◌*◌, ◌/◌, ◌%◌, ◌<◌, ◌≤◌, ◌&&◌, true, List, [], ◌∷◌, length, get_or, drop, Some, None, refl, subst, ap, ◌∙◌, arith, eqb}
use Rattle.std.proofs.Math.Seq.{drop-length}
use Rattle.std.proofs.lemmas.List.{get_or_default}
use Rattle.std.proofs.lemmas.Bool.{and_parts, ltb-true, lt-ltb, leb-true, le-leb, eq-eqb}
use Rattle.muni_rule.specs.Civil.{Civil, IsCivil, order_of, is_before, is_not_after, month_index}
use Rattle.muni_rule.specs.PaymentLaws.{IsRedemptionDate}
use Rattle.muni_rule.specs.QuasiDates.{is_quasi_date, quasi_count, half_years_after}
use Rattle.muni_rule.specs.Terms.{is_dated_date}
use Rattle.muni_rule.proofs.PaymentLemmas.{place, place-own, places-strictly, count-places, quasi-parts}
use Rattle.muni_rule.proofs.RunLemmas.{months-in_order}
use Rattle.muni_days.specs.Day.{civil}
use Rattle.muni_days.specs.declared.day.Day.{Day}
use Rattle.muni_days.proofs.CivilLemmas.{is_civil, is_of_desk}
use Rattle.muni_terms.specs.Check as Check
use Rattle.muni_terms.specs.Issue.{anchor_by, day_at}
use Rattle.muni_terms.specs.declared.row.Call.{Call}
use Rattle.muni_terms.specs.declared.row.IssueRow.{IssueRow}
use Rattle.muni_terms.specs.declared.row.Kind.{Kind}
use Rattle.muni_terms.specs.declared.row.Kind.TheVariants.{Periodic, Zero, AtRedemption, Discount}
use Rattle.muni_terms.proofs.CallLemmas.{IsCallAt, HasCalls, call-at}
use Rattle.muni_terms.proofs.IssueLemmas.{IsIssue, is_issue, is_anchor, below_maturity}

-- a quasi-coupon date from a call on and before maturity is a day of the calendar too
pub later-call : (kind : Kind) (dated maturity anchor date later : Civil) → anchor_by kind maturity ≡ Some anchor → Check.is_call_date kind dated maturity date ≡ true → is_quasi_date anchor later ≡ true → order_of date ≤ order_of later → order_of later < order_of maturity → Check.is_call_date kind dated maturity later ≡ true
later-call (Periodic first) dated maturity anchor date later anchored on_calendar quasi from below =
    let same : anchor ≡ civil first = cc in
    let parts = and_parts (is_quasi_date (civil first) date) (is_before date maturity && is_not_after (civil first) date) on_calendar in
    let rest = and_parts (is_before date maturity) (is_not_after (civil first) date) parts.1 in
    let first_from = leb-true (order_of (civil first)) (order_of date) rest.1 in
    let own : is_quasi_date (civil first) later ≡ true = subst (λ it. is_quasi_date it later ≡ true) same quasi in
    let before : is_before later maturity ≡ true = lt-ltb (order_of later) (order_of maturity) below in
    let on : is_not_after (civil first) later ≡ true = le-leb (order_of (civil first)) (order_of later) (omega arith) in
    rw (own, before, on) refl
later-call Zero dated maturity anchor date later anchored on_calendar quasi from below =
    let same : anchor ≡ maturity = cc in
    let parts = and_parts (is_quasi_date maturity date) (is_before date maturity && is_before dated date) on_calendar in
    let rest = and_parts (is_before date maturity) (is_before dated date) parts.1 in
    let dated_before = ltb-true (order_of dated) (order_of date) rest.1 in
    let own : is_quasi_date maturity later ≡ true = subst (λ it. is_quasi_date it later ≡ true) same quasi in
    let before : is_before later maturity ≡ true = lt-ltb (order_of later) (order_of maturity) below in
    let on : is_before dated later ≡ true = lt-ltb (order_of dated) (order_of later) (omega arith) in
    rw (own, before, on) refl
later-call AtRedemption dated maturity anchor date later anchored on_calendar quasi from below = absurd (cc)
later-call Discount dated maturity anchor date later anchored on_calendar quasi from below = absurd (cc)

-- a call is after the dated date
after-dated : (kind : Kind) (dated maturity : Day) (date : Civil) → Check.are_in_order kind (civil dated) (civil maturity) ≡ true → Check.is_call_date kind (civil dated) (civil maturity) date ≡ true → order_of (civil dated) < order_of date
after-dated (Periodic first) dated maturity date in_order on_calendar =
    let parts = and_parts (is_quasi_date (civil first) date) (is_before date (civil maturity) && is_not_after (civil first) date) on_calendar in
    let rest = and_parts (is_before date (civil maturity)) (is_not_after (civil first) date) parts.1 in
    let first_from = leb-true (order_of (civil first)) (order_of date) rest.1 in
    let order = and_parts (is_before (civil dated) (civil first)) (is_not_after (civil first) (civil maturity)) in_order in
    let before = ltb-true (order_of (civil dated)) (order_of (civil first)) order.0 in
    omega arith
after-dated Zero dated maturity date in_order on_calendar =
    let parts = and_parts (is_quasi_date (civil maturity) date) (is_before date (civil maturity) && is_before (civil dated) date) on_calendar in
    ltb-true (order_of (civil dated)) (order_of date) (and_parts (is_before date (civil maturity)) (is_before (civil dated) date) parts.1).1
after-dated AtRedemption dated maturity date in_order on_calendar = absurd (cc)
after-dated Discount dated maturity date in_order on_calendar = absurd (cc)

-- from a call up to maturity it is less than 100 half years
few-months : (row : IssueRow) (anchor : Civil) (call : Call) → IsIssue row → HasCalls row anchor → IsRedemptionDate anchor (civil call.date) → Check.is_call_date row.kind (civil row.dated) (civil row.maturity) (civil call.date) ≡ true → month_index (civil row.maturity) ≤ month_index (civil call.date) + 594
few-months row anchor call issue calls is_date on_calendar =
    let order = and_parts (is_dated_date (civil row.dated)) (Check.are_in_order row.kind (civil row.dated) (civil row.maturity)) issue.order in
    let year = leb-true 1902 (civil row.dated).year order.0 in
    let dates = is_anchor row anchor issue calls.anchored in
    let desk = is_of_desk row.dated in
    let at = place anchor (civil row.dated) dates.is_date dates.day (record { civil = is_civil row.dated; year_from = omega arith; year_to = desk.year_to }) in
    let own = place-own anchor (civil call.date) is_date in
    let last = place-own anchor (civil row.maturity) calls.maturity in
    let p = month_index (civil call.date) / 6 in
    let q = month_index (civil row.maturity) / 6 in
    let after = after-dated row.kind row.dated row.maturity (civil call.date) order.1 on_calendar in
    let less = places-strictly anchor (civil row.dated) (civil call.date) at.0 p is_date.civil at.1 own after is_date.quasi in
    let before = ltb-true (order_of (civil call.date)) (order_of (civil row.maturity)) (below_maturity row.kind (civil row.dated) (civil row.maturity) (civil call.date) on_calendar) in
    let up_to = places-strictly anchor (civil call.date) (civil row.maturity) p q calls.maturity.civil own last before calls.maturity.quasi in
    let count : quasi_count anchor (civil row.dated) (civil row.maturity) ≡ q - at.0 = count-places anchor (civil row.dated) (civil row.maturity) at.0 q at.1 last (omega arith) in
    let most = dates.count in
    let rest = (quasi-parts anchor (civil call.date) is_date.quasi).1 in
    let last_rest = (quasi-parts anchor (civil row.maturity) calls.maturity.quasi).1 in
    omega arith

-- ---- the same day of the month some half years later
month-order : (date : Civil) → IsCivil date → order_of date ≡ 31 * month_index date + 31 + date.day
month-order date civil = let from = civil.month_from in omega arith

half_years-order : (date : Civil) (half_years : ℕ) → IsCivil date → order_of (half_years_after date half_years) ≡ order_of date + 186 * half_years
half_years-order date half_years civil = let from = civil.month_from in let to = civil.month_to in omega arith

half_years-quasi : (anchor date : Civil) (half_years : ℕ) → is_quasi_date anchor date ≡ true → is_quasi_date anchor (half_years_after date half_years) ≡ true
half_years-quasi anchor date half_years quasi =
    let parts = quasi-parts anchor date quasi in
    let day : eqb date.day anchor.day ≡ true = eq-eqb date.day anchor.day parts.0 in
    let rest = parts.1 in
    let index : month_index (half_years_after date half_years) ≡ month_index date + 6 * half_years = omega arith in
    let month : eqb (month_index (half_years_after date half_years) % 6) (month_index anchor % 6) ≡ true = eq-eqb _ _ (omega arith) in
    rw (day, month) refl

-- a day of a call, so many half years after its own
pub record IsDayOf (row : IssueRow) (call : Call) (half_years : ℕ) : Type 0 where
  pub day : (civil call.date).day ≤ 28
  pub few : half_years ≤ 200
  pub of_desk : month_index (civil call.date) + 6 * half_years < 26_400
  pub room : month_index (civil call.date) + 6 * half_years + 6 ≤ month_index (day_at row 0) + 594
  pub on_calendar : Check.is_call_date row.kind (civil row.dated) (civil row.maturity) (half_years_after (civil call.date) half_years) ≡ true

-- less than 100 half years are left from the first call
pub from-first : (row : IssueRow) (call : Call) → Check.fault_of row ≡ None → 0 < length row.calls.items → month_index (civil row.maturity) ≤ month_index (day_at row 0) + 594
from-first row call none some =
    let items = row.calls.items in
    let first = get_or items 0 call in
    let at = call-at row 0 first none some (get_or_default items 0 call first some) in
    let few = few-months row at.anchor first (is_issue row none) at.calls at.is_date at.is_call.on_calendar in
    rw at.from few

pub is-day_of : (row : IssueRow) (place : ℕ) (call : Call) (half_years days : ℕ) → Check.fault_of row ≡ None → IsCallAt row place call → 0 < length row.calls.items → half_years < days → month_index (day_at row place) + 6 * days ≤ month_index (day_at row (place + 1)) → IsDayOf row call half_years
is-day_of row place call half_years days none at some less within =
    let date = civil call.date in
    let later = half_years_after date half_years in
    let end = day_at row (place + 1) in
    let own : day_at row place ≡ date = rw at.from refl in
    let from : month_index date + 6 * days ≤ month_index end = rw own at within in
    let first = from-first row call none some in
    let last = months-in_order at.anchor end (civil row.maturity) at.end.is_date at.calls.maturity at.end.up_to in
    let few = few-months row at.anchor call (is_issue row none) at.calls at.is_date at.is_call.on_calendar in
    let year = (is_of_desk row.maturity).year_to in
    let month = (is_civil row.maturity).month_to in
    let month_from = (is_civil row.maturity).month_from in
    let day_same = (quasi-parts at.anchor date at.is_date.quasi).0 in
    let last_same = (quasi-parts at.anchor (civil row.maturity) at.calls.maturity.quasi).0 in
    let small = at.is_date.anchor_day in
    let order = half_years-order date half_years (is_civil call.date) in
    let maturity_order = month-order (civil row.maturity) (is_civil row.maturity) in
    record {
      day = omega arith;
      few = omega arith;
      of_desk = omega arith;
      room = omega arith;
      on_calendar = later-call row.kind (civil row.dated) (civil row.maturity) at.anchor date later at.calls.anchored at.is_call.on_calendar (half_years-quasi at.anchor date half_years at.is_date.quasi) (omega arith) (omega arith);
    }

-- so there are less than 100 days in all
few-by : (row : IssueRow) (items : List Call) (place count : ℕ) → Check.fault_of row ≡ None → row.calls.items ≡ items → day_at row place ≡ civil row.maturity → 6 * count + month_index (day_at row 0) ≤ month_index (day_at row place) → count ≤ 99
few-by row [] place count none is last room =
    let own : day_at row 0 ≡ civil row.maturity = rw is refl in
    let up_to = rw (own, last) at room in
    omega arith
few-by row (first ∷ rest) place count none is last room =
    let some : 0 < length row.calls.items = rw is (omega arith) in
    let from = from-first row first none some in
    let up_to = rw last at room in
    omega arith

pub few-days : (row : IssueRow) (calls : List Call) (place count : ℕ) → Check.fault_of row ≡ None → calls ≡ row.calls.items → place ≡ length calls → 6 * count + month_index (day_at row 0) ≤ month_index (day_at row place) → count ≤ 99
few-days row calls place count none items is room =
    let all : place ≡ length row.calls.items = is ∙ ap length items in
    let none_left : drop place row.calls.items ≡ [] = ap (λ n. drop n row.calls.items) all ∙ drop-length row.calls.items in
    few-by row row.calls.items place count none refl (rw none_left refl) room
