-- The candidates of an issue stand for its payments.
use Rattle.std.proofs.Common.{◌≡◌, ℕ, ◌+◌, ◌-◌, ◌<◌, Bool, true, false, List, [], ◌∷◌, ◌++◌, map, replicate, Option, Some, None, refl, sym, ap, subst, ◌∙◌, arith, inl, inr, ℤ}
use Rattle.std.specs.Prelude.{All, slice_index_or, option_map, option_and_then, if◌then◌else◌}
use Rattle.std.proofs.lemmas.Bool.{ltb-true, eqb-true}
use Rattle.std.proofs.lemmas.List.Elements.{All-nil, All-cons, All-head, All-tail, All-same, All-append, All-map, All-weaker, All-filter, filter_passes}
use Rattle.muni_rule.specs.Civil.{Civil, order_of, is_before}
use Rattle.muni_rule.specs.QuasiDates.{quasi_count, days_into_period}
use Rattle.muni_rule.specs.Accrued.{coupon_accrued_days}
use Rattle.muni_rule.specs.LastPayment.{is_last_period, last_payment}
use Rattle.muni_rule.specs.Payments.{PaymentSeries, add_to_last, payments_of, payment_at, unpaid_count, coupon_numbers, zero_numbers, coupon_series, zero_series, coupon_payments, zero_payments}
use Rattle.muni_rule.specs.Redemptions.{Redemption, at_maturity, call_days, end_of, redemption_by, redemptions_by, is_called, final_redemption, to_come_after}
use Rattle.muni_rule.specs.Terms.{is_call_price}
use Rattle.muni_rule.proofs.PaymentLemmas.{coupon-series, zero-series, is_interest, quasi_count-redeemed}
use Rattle.muni_days.specs.Day.{civil}
use Rattle.muni_days.specs.declared.day.Day.{Day}
use Rattle.muni_days.proofs.DayLemmas.{same_date}
use Rattle.muni_terms.specs.Check.{fault_of, calls_fault, is_call_date}
use Rattle.muni_terms.specs.Issue.{IsRedemption, settles, anchor_of, series_by, series_of, payments, payments_by, entry_of, entries_of, quasi_dates_of}
use Rattle.muni_terms.specs.declared.row.Call.{Call}
use Rattle.muni_terms.specs.declared.row.Kind.{Kind}
use Rattle.muni_terms.specs.declared.row.Kind.TheVariants.{Periodic, Zero, AtRedemption, Discount}
use Rattle.muni_terms.specs.declared.row.IssueRow.{IssueRow}
use Rattle.muni_terms.proofs.IssueLemmas.{IsIssue, IsSettled, is_issue, is_passed, is_settled, issue_payments, coupon_redemption}
use Rattle.muni_sched.specs.Candidates.{redemption_of, calls_of, redemptions_of, HasShape}
use Rattle.muni_sched.specs.CandidateLaws.{StandsFor, CandidatesStandForPayments}
use Rattle.muni_sched.specs.Shape.{single, series_shape, shape_by}
use Rattle.muni_sched.specs.declared.candidate.Candidate.{Candidate}
use Rattle.muni_sched.proofs.DayLemmas.{later-call}
use Rattle.muni_sched.proofs.RiseLemmas.{IsOnRun, call-before, all-both}
use Rattle.muni_sched.specs.declared.candidate.Shape.{Shape}
use Rattle.muni_sched.specs.declared.candidate.Shape.TheVariants as shape

-- ---- numbers
-- the numbers stand for payments, of which some are not before the first interest date
record AreNumbers (series : PaymentSeries) (paid : List ℕ) : Type 0 where
  stand : payments_of series ≡ paid
  fewer : series.skip < series.n

one-left : (n skip first regular redemption : ℕ) → skip ≡ 0 → n ≡ 1 → add_to_last redemption (replicate skip 0 ++ first ∷ replicate (n - skip - 1) regular) ≡ (first + redemption) ∷ []
one-left n skip first regular redemption none one = rw (none, one) refl

own-place : (paid : List ℕ) (x : ℕ) → paid ≡ x ∷ [] → paid ≡ slice_index_or paid 0 0 ∷ []
own-place paid x is = rw is refl

-- in the last six months one payment is left
last-stands : (series : PaymentSeries) (paid : List ℕ) → is_last_period series ≡ true → AreNumbers series paid → StandsFor (shape.One (single (last_payment series))) paid
last-stands series paid last numbers =
    let one : series.n ≡ 1 = eqb-true series.n 1 last in
    let fewer = numbers.fewer in
    let left = one-left series.n series.skip series.first series.regular series.redemption (omega arith) one in
    (payment_at series 0, sym numbers.stand ∙ own-place (payments_of series) (series.first + series.redemption) left, refl)

series-stands : (series : PaymentSeries) (paid : List ℕ) → AreNumbers series paid → StandsFor (series_shape series) paid
series-stands series paid numbers =
    elim (is_last_period series) as (λ last. is_last_period series ≡ last → StandsFor (if last then shape.One (single (last_payment series)) else shape.Many series) paid) [
      | true ↦ λ last. last-stands series paid last numbers
      | false ↦ λ more. numbers.stand
    ] refl

some-same : {X : Type 0} (x y : X) → Some x ≡ Some y → x ≡ y
some-same x y same = cc

shape-stands : (found : Option PaymentSeries) (of : Shape) (paid : List ℕ) → ((series : PaymentSeries) → found ≡ Some series → AreNumbers series paid) → Some of ≡ option_map series_shape found → StandsFor of paid
shape-stands None of paid numbers is = absurd (let never : Some of ≡ None = is in cc)
shape-stands (Some series) of paid numbers is =
    subst (λ s. StandsFor s paid) (sym (some-same of (series_shape series) is)) (series-stands series paid (numbers series refl))

-- how many there are, and how many come before the first interest date
coupon-counts : (dated first : Civil) (coupon : ℕ) (settlement redemption : Civil) (price : ℕ) (series : PaymentSeries) (into accrued : Option ℤ) → option_and_then (λ a. option_map (coupon_numbers dated first coupon settlement redemption price a) accrued) into ≡ Some series → (series.skip ≡ unpaid_count first settlement) × (series.n ≡ quasi_count first settlement redemption)
coupon-counts dated first coupon settlement redemption price series None accrued is = absurd (let never : None ≡ Some series = is in cc)
coupon-counts dated first coupon settlement redemption price series (Some a) None is = absurd (let never : None ≡ Some series = is in cc)
coupon-counts dated first coupon settlement redemption price series (Some a) (Some b) is =
    let same = some-same (coupon_numbers dated first coupon settlement redemption price a b) series is in
    subst (λ (s : PaymentSeries). (s.skip ≡ unpaid_count first settlement) × (s.n ≡ quasi_count first settlement redemption)) same (refl, refl)

zero-counts : (maturity settlement redemption : Civil) (price : ℕ) (series : PaymentSeries) (into : Option ℤ) → option_map (zero_numbers maturity settlement redemption price) into ≡ Some series → (series.skip ≡ 0) × (series.n ≡ quasi_count maturity settlement redemption)
zero-counts maturity settlement redemption price series None is = absurd (let never : None ≡ Some series = is in cc)
zero-counts maturity settlement redemption price series (Some a) is =
    let same = some-same (zero_numbers maturity settlement redemption price a) series is in
    subst (λ (s : PaymentSeries). (s.skip ≡ 0) × (s.n ≡ quasi_count maturity settlement redemption)) same (refl, refl)

-- ---- redemptions
-- the issue is redeemed so, after the settlement
record IsToCome (row : IssueRow) (settlement date : Day) (price : ℕ) : Type 0 where
  later : order_of (civil settlement) < order_of (civil date)
  redeemed : IsRedemption row date price

-- the shape of a series, by the kind of the issue
by-kind : (row : IssueRow) (settlement date : Day) (price : ℕ) (kind : Kind) → row.kind ≡ kind → option_map series_shape (series_of row settlement date price) ≡ option_map series_shape (series_by kind row (civil settlement) (civil date) price)
by-kind row settlement date price kind is = ap (λ k. option_map series_shape (series_by k row (civil settlement) (civil date) price)) is

stands-by : (row : IssueRow) (settlement date : Day) (price : ℕ) (of : Shape) (kind : Kind) → row.kind ≡ kind → fault_of row ≡ None → settles row settlement ≡ true → IsToCome row settlement date price → Some of ≡ shape_by kind row settlement date price →
    StandsFor of (payments_by kind row (civil settlement) (civil date) price)
stands-by row settlement date price of (Periodic first) is none settled to_come shaped =
    let there : anchor_of row ≡ Some (civil first) = rw is refl in
    let found = issue_payments row row (civil first) settlement date price refl none there settled to_come.redeemed to_come.later in
    let coupons = coupon_redemption row row first settlement date price refl none is settled to_come.redeemed found in
    let fewer = (is_interest (civil row.dated) (civil first) (civil settlement) (civil date) row.coupon coupons).fewer in
    shape-stands (coupon_series (civil row.dated) (civil first) row.coupon (civil settlement) (civil date) price) of
    (coupon_payments (civil row.dated) (civil first) row.coupon (civil settlement) (civil date) price)
    (λ series numbers.
    let counts = coupon-counts (civil row.dated) (civil first) row.coupon (civil settlement) (civil date) price series (days_into_period (civil first) (civil settlement)) (coupon_accrued_days (civil row.dated) (civil first) (civil settlement)) numbers in
    record { stand = coupon-series (civil row.dated) (civil first) (civil settlement) (civil date) row.coupon price series coupons numbers; fewer = rw (counts.0, counts.1) fewer })
    (shaped ∙ by-kind row settlement date price (Periodic first) is)
stands-by row settlement date price of Zero is none settled to_come shaped =
    let there : anchor_of row ≡ Some (civil row.maturity) = rw is refl in
    let found = issue_payments row row (civil row.maturity) settlement date price refl none there settled to_come.redeemed to_come.later in
    let some = quasi_count-redeemed (civil row.maturity) (civil settlement) (civil date) found.redeemed in
    shape-stands (zero_series (civil row.maturity) (civil settlement) (civil date) price) of
    (zero_payments (civil row.maturity) (civil settlement) (civil date) price)
    (λ series numbers.
    let counts = zero-counts (civil row.maturity) (civil settlement) (civil date) price series (days_into_period (civil row.maturity) (civil settlement)) numbers in
    record { stand = zero-series (civil row.maturity) (civil settlement) (civil date) price series found.redeemed numbers; fewer = rw (counts.0, counts.1) (omega arith) })
    (shaped ∙ by-kind row settlement date price Zero is)
stands-by row settlement date price of AtRedemption is none settled to_come shaped = subst (λ s. StandsFor s []) (sym (some-same of _ shaped)) tt
stands-by row settlement date price of Discount is none settled to_come shaped = subst (λ s. StandsFor s []) (sym (some-same of _ shaped)) tt

-- each redemption of the rule's list, at the day that it names
abbrev ComesAt : IssueRow → Day → Redemption → Type 0
ComesAt row settlement redemption = (date : Day) → civil date ≡ redemption.date → IsToCome row settlement date redemption.price

abbrev IsCalledAt : IssueRow → Redemption → Type 0
IsCalledAt row redemption =
    (is_call_date row.kind (civil row.dated) (civil row.maturity) redemption.date ≡ true) × (is_call_price redemption.price ≡ true)

-- a call of an issue may be redeemed on each day on which it stands
calls-called : (row : IssueRow) (before : Option Day) (calls : List Call) → IsIssue row → calls_fault row before calls ≡ None → All (IsCalledAt row) (redemptions_by (quasi_dates_of row) (map entry_of calls) (civil row.maturity))
unfolding redemptions_by
calls-called row before [] issue none = All-nil (IsCalledAt row)
calls-called row before (call ∷ calls) issue none =
    let this = is_passed row before call calls none in
    let is = call-before row before call calls issue this in
    let end = end_of (map entry_of calls) (civil row.maturity) in
    let days = call_days call.term (quasi_dates_of row) (civil call.date) end in
    let up_to = is.end.up_to in
    let own = All-map (IsCalledAt row) (redemption_by (entry_of call)) days
    (All-weaker (IsOnRun is.anchor (civil call.date) end) (λ date. IsCalledAt row (redemption_by (entry_of call) date))
    (λ date on. let below = on.before in (later-call row.kind (civil row.dated) (civil row.maturity) is.anchor (civil call.date) date is.has.anchored this.is_call.on_calendar on.quasi on.from (omega arith), this.is_call.in_range)) days is.on_run) in
    All-append (IsCalledAt row) (map (redemption_by (entry_of call)) days) (redemptions_by (quasi_dates_of row) (map entry_of calls) (civil row.maturity)) own (calls-called row (Some call.date) calls issue this.rest)

call-comes : (row : IssueRow) (settlement : Day) (redemption : Redemption) → is_before (civil settlement) redemption.date ≡ true → IsCalledAt row redemption → ComesAt row settlement redemption
call-comes row settlement redemption before called date same =
    record {
      later = subst (λ (it : Civil). order_of (civil settlement) < order_of it) (sym same) (ltb-true (order_of (civil settlement)) (order_of redemption.date) before);
      redeemed = inr (subst (λ (it : Civil). is_call_date row.kind (civil row.dated) (civil row.maturity) it ≡ true) (sym same) called.0, called.1);
    }

maturity-comes : (row : IssueRow) (settlement : Day) → IsSettled row settlement → ComesAt row settlement (at_maturity (civil row.maturity))
maturity-comes row settlement settled date same =
    record { later = subst (λ (it : Civil). order_of (civil settlement) < order_of it) (sym same) settled.below; redeemed = inl (same_date date row.maturity same, refl) }

final-comes : (row : IssueRow) (settlement : Day) (called : Bool) → is_called (entries_of row) ≡ called → IsSettled row settlement → All (ComesAt row settlement) (final_redemption (entries_of row) (civil row.maturity))
final-comes row settlement true is settled =
    let none : final_redemption (entries_of row) (civil row.maturity) ≡ [] = rw is refl in
    All-same (ComesAt row settlement) (final_redemption (entries_of row) (civil row.maturity)) [] none (All-nil (ComesAt row settlement))
final-comes row settlement false is settled =
    let one : final_redemption (entries_of row) (civil row.maturity) ≡ at_maturity (civil row.maturity) ∷ [] = rw is refl in
    All-same (ComesAt row settlement) (final_redemption (entries_of row) (civil row.maturity)) (at_maturity (civil row.maturity) ∷ []) one
    (All-cons (ComesAt row settlement) (at_maturity (civil row.maturity)) [] (maturity-comes row settlement settled) (All-nil (ComesAt row settlement)))

redemptions-come : (row : IssueRow) (settlement : Day) → IsIssue row → settles row settlement ≡ true → All (ComesAt row settlement) (redemptions_of row settlement)
redemptions-come row settlement issue settled =
    let later = λ (it : Redemption). is_before (civil settlement) it.date in
    All-append (ComesAt row settlement) (to_come_after (civil settlement) (calls_of row)) (final_redemption (entries_of row) (civil row.maturity))
    (all-both (λ it. later it ≡ true) (IsCalledAt row) (ComesAt row settlement) (to_come_after (civil settlement) (calls_of row)) (call-comes row settlement)
    (filter_passes later (calls_of row)) (All-filter later (IsCalledAt row) (calls_of row) (calls-called row None row.calls.items issue issue.calls)))
    (final-comes row settlement (is_called (entries_of row)) refl (is_settled row settlement issue settled))

-- ---- candidates
abbrev Stands : IssueRow → Day → Candidate → Type 0
Stands row settlement candidate = StandsFor candidate.shape (payments row settlement candidate.date candidate.price)

each-stands : (row : IssueRow) (settlement : Day) (list : List Candidate) → fault_of row ≡ None → settles row settlement ≡ true → All (ComesAt row settlement) (map redemption_of list) → All (HasShape row settlement) list → All (Stands row settlement) list
each-stands row settlement [] none settled come shapes = All-nil (Stands row settlement)
each-stands row settlement (candidate ∷ rest) none settled come shapes =
    All-cons (Stands row settlement) candidate rest
    (stands-by row settlement candidate.date candidate.price candidate.shape row.kind refl none settled
    (All-head (ComesAt row settlement) (redemption_of candidate) (map redemption_of rest) come candidate.date refl)
    (All-head (HasShape row settlement) candidate rest shapes))
    (each-stands row settlement rest none settled
    (All-tail (ComesAt row settlement) (redemption_of candidate) (map redemption_of rest) come)
    (All-tail (HasShape row settlement) candidate rest shapes))

pub candidates-stand : CandidatesStandForPayments
candidates-stand row settlement list none settled are =
    each-stands row settlement list none settled
    (All-same (ComesAt row settlement) (map redemption_of list) (redemptions_of row settlement) are.redemptions (redemptions-come row settlement (is_issue row none) settled))
    are.shapes
