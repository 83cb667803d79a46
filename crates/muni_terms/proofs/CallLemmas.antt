-- The calls of an issue that passed its tests, and the days on which they stand.
use Rattle.std.proofs.Common.{◌≡◌, ℕ, zero, suc, ◌+◌, ◌-◌, ◌*◌, ◌/◌, ◌<◌, ◌≤◌, true, List, [], ◌∷◌, length, get_or, drop, map, Option, Some, None, refl, sym, ap, ◌∙◌, arith}
use Rattle.std.specs.List.{last_or, slice_get, range_with_len}
use Rattle.std.proofs.Math.Seq.{drop-cons}
use Rattle.std.proofs.lemmas.Bool.{ltb-true}
use Rattle.muni_rule.specs.Civil.{Civil, order_of, month_index}
use Rattle.muni_rule.specs.PaymentLaws.{IsRedemptionDate}
use Rattle.muni_rule.specs.QuasiDates.{quasi_dates, is_quasi_date, half_years_after}
use Rattle.muni_rule.specs.Redemptions.{CallEntry, call_days, end_of}
use Rattle.muni_rule.specs.declared.call_term.CallTerm.TheVariants.{OnOrAfter}
use Rattle.muni_rule.proofs.RunLemmas.{run-half_years, half_year-later}
use Rattle.muni_days.specs.Day.{civil}
use Rattle.muni_days.specs.declared.day.Day.{Day}
use Rattle.muni_days.proofs.CivilLemmas.{is_civil, is_of_desk}
use Rattle.muni_terms.specs.Check as Check
use Rattle.muni_terms.specs.Issue.{anchor_by, anchor_of, quasi_dates_by, quasi_dates_of, entry_of, days_at, day_at}
use Rattle.muni_terms.specs.declared.row.Call.{Call}
use Rattle.muni_terms.specs.declared.row.IssueRow.{IssueRow}
use Rattle.muni_terms.specs.declared.row.Kind.{Kind}
use Rattle.muni_terms.specs.declared.row.Kind.TheVariants.{Periodic, Zero, AtRedemption, Discount}
use Rattle.muni_terms.proofs.HalfYearLemmas.{half_years-none}
use Rattle.muni_terms.proofs.IssueLemmas.{IsIssue, IsCall, is_issue, is_passed, is_anchor, call-by_kind, below_maturity}

-- ---- the last entry of a call schedule
last-after : (before : Option CallEntry) (call : Call) (calls : List Call) (found : Call) → slice_get (call ∷ calls) (length calls) ≡ Some found → last_or before (map entry_of (call ∷ calls)) ≡ Some (entry_of found)
last-after before call [] found is = let same : call ≡ found = (let both : Some call ≡ Some found = is in cc) in rw same refl
last-after before call (next ∷ calls) found is = last-after (Some (entry_of call)) next calls found is

-- the last call is the last entry
pub last-entry : (calls : List Call) (found : Call) → slice_get calls (length calls - 1) ≡ Some found → last_or None (map entry_of calls) ≡ Some (entry_of found)
last-entry [] found is = absurd (cc)
last-entry (call ∷ calls) found is =
    let place : length (call ∷ calls) - 1 ≡ length calls = omega arith in
    last-after None call calls found (ap (slice_get (call ∷ calls)) (sym place) ∙ is)

pub last-none : (calls : List Call) → length calls ≤ 0 → last_or None (map entry_of calls) ≡ None
last-none [] few = refl
last-none (call ∷ calls) few = absurd (omega arith)

-- ---- the days of a call
-- what an issue with a call has: quasi-coupon dates, of which its maturity is one
pub record HasCalls (row : IssueRow) (anchor : Civil) : Type 0 where
  pub anchored : anchor_of row ≡ Some anchor
  pub dates : quasi_dates_of row ≡ quasi_dates anchor
  pub maturity : IsRedemptionDate anchor (civil row.maturity)

anchored-by : (kind : Kind) (dated maturity date : Civil) → Check.is_call_date kind dated maturity date ≡ true → (anchor : Civil) × (anchor_by kind maturity ≡ Some anchor)
anchored-by (Periodic first) dated maturity date on_calendar = (civil first, refl)
anchored-by Zero dated maturity date on_calendar = (maturity, refl)
anchored-by AtRedemption dated maturity date on_calendar = absurd (cc)
anchored-by Discount dated maturity date on_calendar = absurd (cc)

desk-date : (row : IssueRow) (anchor : Civil) (date : Day) → IsIssue row → anchor_of row ≡ Some anchor → is_quasi_date anchor (civil date) ≡ true → IsRedemptionDate anchor (civil date)
desk-date row anchor date issue there quasi =
    let dates = is_anchor row anchor issue there in
    let desk = is_of_desk date in
    record { anchor_civil = dates.is_date; anchor_day = dates.day; civil = is_civil date; year_from = desk.year_from; year_to = desk.year_to; quasi = quasi }

pub has-calls : (row : IssueRow) (date : Civil) → IsIssue row → Check.is_call_date row.kind (civil row.dated) (civil row.maturity) date ≡ true → (anchor : Civil) × HasCalls row anchor
has-calls row date issue on_calendar =
    let found = anchored-by row.kind (civil row.dated) (civil row.maturity) date on_calendar in (
      found.0,
      record {
        anchored = found.1;
        dates = ap quasi_dates_by found.1;
        maturity = desk-date row found.0 row.maturity issue found.1 (is_anchor row found.0 issue found.1).quasi;
      },
    )

-- a call of it is on another
pub call-date : (row : IssueRow) (anchor : Civil) (call : Call) → IsIssue row → HasCalls row anchor → IsCall row (civil call.date) call.price → IsRedemptionDate anchor (civil call.date)
call-date row anchor call issue calls is =
    desk-date row anchor call.date issue calls.anchored (call-by_kind row.kind (civil row.dated) (civil row.maturity) anchor (civil call.date) calls.anchored is.on_calendar).0

-- the day before which a call stands
pub record IsEnd (row : IssueRow) (anchor start end : Civil) : Type 0 where
  pub later : order_of start < order_of end
  pub is_date : IsRedemptionDate anchor end
  pub up_to : order_of end ≤ order_of (civil row.maturity)

pub next-end : (row : IssueRow) (anchor : Civil) (call : Call) (calls : List Call) → IsIssue row → HasCalls row anchor → IsCall row (civil call.date) call.price → Check.calls_fault row (Some call.date) calls ≡ None → IsEnd row anchor (civil call.date) (end_of (map entry_of calls) (civil row.maturity))
next-end row anchor call [] issue calls is rest =
    record {
      later = ltb-true (order_of (civil call.date)) (order_of (civil row.maturity)) (below_maturity row.kind (civil row.dated) (civil row.maturity) (civil call.date) is.on_calendar);
      is_date = calls.maturity;
      up_to = omega arith;
    }
next-end row anchor call (next ∷ more) issue calls is rest =
    let this = is_passed row (Some call.date) next more rest in
    let below = ltb-true (order_of (civil next.date)) (order_of (civil row.maturity)) (below_maturity row.kind (civil row.dated) (civil row.maturity) (civil next.date) this.is_call.on_calendar) in
    record {
      later = ltb-true (order_of (civil call.date)) (order_of (civil next.date)) this.rises;
      is_date = call-date row anchor next issue calls this.is_call;
      up_to = omega arith;
    }

-- the calls from a place on pass their tests
pub passed-from : (row : IssueRow) (before : Option Day) (calls : List Call) (place : ℕ) → Check.calls_fault row before calls ≡ None → (last : Option Day) × (Check.calls_fault row last (drop place calls) ≡ None)
passed-from row before calls zero none = (before, none)
passed-from row before [] (suc place) none = (before, none)
passed-from row before (call ∷ calls) (suc place) none = passed-from row (Some call.date) calls place (is_passed row before call calls none).rest

-- a call, and the calls after it
pub record IsCallAt (row : IssueRow) (place : ℕ) (call : Call) : Type 0 where
  pub anchor : Civil
  pub calls : HasCalls row anchor
  pub from : drop place row.calls.items ≡ call ∷ drop (place + 1) row.calls.items
  pub is_call : IsCall row (civil call.date) call.price
  pub is_date : IsRedemptionDate anchor (civil call.date)
  pub end : IsEnd row anchor (civil call.date) (day_at row (place + 1))

pub call-at : (row : IssueRow) (place : ℕ) (call : Call) → Check.fault_of row ≡ None → place < length row.calls.items → call ≡ get_or row.calls.items place call → IsCallAt row place call
call-at row place call none inside is =
    let issue = is_issue row none in
    let next : suc place ≡ place + 1 = omega arith in
    let from : drop place row.calls.items ≡ call ∷ drop (place + 1) row.calls.items =
    drop-cons row.calls.items place call inside ∙ (λ i. sym is i ∷ drop (next i) row.calls.items) in
    let found = passed-from row None row.calls.items place issue.calls in
    let this = is_passed row found.0 call (drop (place + 1) row.calls.items) (rw from at found.1) in
    let calls = has-calls row (civil call.date) issue this.is_call.on_calendar in
    record {
      anchor = calls.0;
      calls = calls.1;
      from = from;
      is_call = this.is_call;
      is_date = call-date row calls.0 call issue calls.1 this.is_call;
      end = next-end row calls.0 call (drop (place + 1) row.calls.items) issue calls.1 this.is_call this.rest;
    }

-- the days of a call that stands on its own day alone
pub one-day : (row : IssueRow) (place : ℕ) (call : Call) → IsCallAt row place call → call_days call.term (quasi_dates_of row) (civil call.date) (day_at row (place + 1)) ≡ civil call.date ∷ [] →
    (days_at row place ≡ map (half_years_after (day_at row place)) (range_with_len 0 1)) × (month_index (day_at row place) + 6 ≤ month_index (day_at row (place + 1)))
one-day row place call at alone =
    let own : half_years_after (civil call.date) 0 ≡ civil call.date = sym (half_years-none (civil call.date) 0 (is_civil call.date) refl) in
    let later = half_year-later at.anchor (civil call.date) (day_at row (place + 1)) at.is_date at.end.is_date at.end.later in
    (rw at.from (alone ∙ (λ i. sym own i ∷ [])), rw at.from later)

-- and of one on or after its day
pub run-days : (row : IssueRow) (place : ℕ) (call : Call) → IsCallAt row place call → call.term ≡ OnOrAfter →
    (days_at row place ≡ map (half_years_after (day_at row place)) (range_with_len 0 ((month_index (day_at row (place + 1)) - month_index (civil call.date)) / 6)))
    × (month_index (day_at row place) + 6 * ((month_index (day_at row (place + 1)) - month_index (civil call.date)) / 6) ≤ month_index (day_at row (place + 1)))
run-days row place call at term =
    let end = day_at row (place + 1) in
    let less = at.end.later in
    let run = run-half_years at.anchor (civil call.date) end at.is_date at.end.is_date (omega arith) in
    let later = half_year-later at.anchor (civil call.date) end at.is_date at.end.is_date at.end.later in
    (rw (at.from, term, at.calls.dates) run, rw at.from (omega arith))

-- the call that is read at a place
pub call-read : (row given : IssueRow) (calls : List Call) (place : ℕ) (call : Call) → row ≡ given → Check.fault_of row ≡ None → calls ≡ given.calls.items → place < length given.calls.items → call ≡ get_or calls place call → IsCallAt given place call
call-read row given calls place call same none items inside is =
    call-at given place call (rw same at none) inside (rw items at is)
