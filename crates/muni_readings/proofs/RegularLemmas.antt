-- The last quasi-coupon date that is not after a day, by its month, and the start of an issue with coupons.
use Rattle.std.proofs.Common.{◌≡◌, ℕ, ◌+◌, ◌*◌, ◌/◌, ◌%◌, ◌<◌, ◌≤◌, refl, sym, ap, ◌∙◌, subst, arith, Option, Some, None}
use Rattle.std.specs.Prelude.{IfSome, option_and_then}
use Rattle.std.proofs.lemmas.Bool.{and_parts, leb-true}
use Rattle.muni_rule.specs.Civil.{Civil, order_of, month_index, day_in_month}
use Rattle.muni_rule.specs.QuasiDates.{last_quasi_date}
use Rattle.muni_rule.specs.Terms.{is_dated_date}
use Rattle.muni_rule.proofs.QuasiDateLemmas.{IsLastAt, last-place}
use Rattle.muni_days.specs.Day.{civil, if_day}
use Rattle.muni_days.specs.declared.day.Day.{Day}
use Rattle.muni_days.proofs.EarlyLemmas.{civil_found}
use Rattle.muni_terms.specs.Check as Check
use Rattle.muni_terms.specs.Issue.{anchor_of}
use Rattle.muni_terms.specs.LastMonth.{IsLastMonth}
use Rattle.muni_terms.specs.declared.row.IssueRow.{IssueRow}
use Rattle.muni_terms.specs.declared.row.Kind.TheVariants.{Periodic}
use Rattle.muni_terms.proofs.IssueLemmas.{is_issue, is_anchor}
use Rattle.muni_readings.specs.Regular.{quasi_day}

month-last : (day rest order index : ℕ) → index % 6 ≡ rest → 31 * index + 31 + day ≤ order → order < 31 * index + 217 + day → IsLastAt day rest order (index / 6)
month-last day rest order index half_years reached next = record { reached = omega arith; next_not_reached = omega arith }

last-month : (anchor settlement : Civil) (index : ℕ) → IsLastMonth anchor settlement index → last_quasi_date anchor settlement ≡ Some (day_in_month index anchor.day)
last-month anchor settlement index month =
    let is_last = month-last anchor.day (month_index anchor % 6) (order_of settlement) index month.half_years month.reached month.next_not_reached in
    let half_years = month.half_years in
    let low = month.from in
    let high = month.below in
    let same : 6 * (index / 6) + month_index anchor % 6 ≡ index = omega arith in
    last-place anchor settlement (index / 6) is_last (omega arith) (omega arith) ∙ rw same refl

-- the day in that month is the last quasi-coupon date
pub quasi_day-month : (anchor day : Day) (index date : ℕ) → IsLastMonth (civil anchor) (civil day) index → date ≡ (civil anchor).day → if_day (day_in_month index date) ≡ quasi_day anchor day
quasi_day-month anchor day index date month is =
    ap (λ d. if_day (day_in_month index d)) is ∙ ap (option_and_then if_day) (sym (last-month (civil anchor) (civil day) index month))

pub found-day : (date : Civil) (found : Option Day) → found ≡ if_day date → date.day ≤ 28 → IfSome found (λ day. (civil day).day ≤ 28)
found-day date None is small = tt
found-day date (Some day) is small = subst (λ (it : Civil). it.day ≤ 28) (sym (civil_found date day is)) small

-- interest falls on a day that every month has, and the dated date is not before 1902
pub record IsCouponStart (row : IssueRow) (first : Day) : Type 0 where
  pub day : (civil first).day ≤ 28
  pub year : 1902 ≤ (civil row.dated).year

pub coupon-start : (row : IssueRow) (first : Day) → Check.fault_of row ≡ None → row.kind ≡ Periodic first → IsCouponStart row first
coupon-start row first none is_periodic =
    let issue = is_issue row none in
    let there : anchor_of row ≡ Some (civil first) = rw is_periodic refl in
    let order = and_parts (is_dated_date (civil row.dated)) (Check.are_in_order row.kind (civil row.dated) (civil row.maturity)) issue.order in
    record { day = (is_anchor row (civil first) issue there).day; year = leb-true 1902 (civil row.dated).year order.0 }
