-- The redemptions of an issue rise in date, as the tests of its terms have it.
use Rattle.std.proofs.Common.{◌≡◌, ℕ, suc, ◌<◌, ◌≤◌, ◌&&◌, Bool, true, false, List, [], ◌∷◌, ◌++◌, map, filter, Option, Some, None, refl, sym, subst, arith}
use Rattle.std.specs.Prelude.{All, AllPairs, Contains}
use Rattle.std.proofs.lemmas.Bool.{and_parts, ltb-true, leb-true}
use Rattle.std.proofs.lemmas.List.{get_or-map, length-map, append-nil}
use Rattle.std.proofs.lemmas.List.Elements.{All-nil, All-cons, All-head, All-tail, All-append, All-map, All-weaker, All-filter, All-contains_itself, filter_passes}
use Rattle.std.proofs.lemmas.List.Kept.{AllPairs-cons, AllPairs-filter}
use Rattle.std.proofs.lemmas.List.Quantifiers.{all_pairs_push}
use Rattle.muni_rule.specs.Civil.{Civil, order_of, is_before, is_not_after}
use Rattle.muni_rule.specs.PaymentLaws.{IsRedemptionDate}
use Rattle.muni_rule.specs.QuasiDates.{quasi_dates, is_quasi_date}
use Rattle.muni_rule.specs.Redemptions.{CallEntry, Redemption, at_maturity, call_days, end_of, redemption_by, redemptions_by, is_called, final_redemption, to_come_after, redemptions_after}
use Rattle.muni_rule.specs.declared.call_term.CallTerm.{CallTerm}
use Rattle.muni_rule.specs.declared.call_term.CallTerm.TheVariants.{OnDay, OnOrAfter, Called}
use Rattle.muni_rule.proofs.QuasiDateLawLemmas.{quasi_dates-rise, contained-test}
use Rattle.muni_days.specs.Day.{civil}
use Rattle.muni_days.specs.declared.day.Day.{Day}
use Rattle.muni_terms.specs.Check as Check
use Rattle.muni_terms.specs.Issue.{entry_of, entries_of, quasi_dates_of}
use Rattle.muni_terms.specs.declared.row.Call.{Call}
use Rattle.muni_terms.specs.declared.row.IssueRow.{IssueRow}
use Rattle.muni_terms.proofs.CallLemmas.{HasCalls, IsEnd, has-calls, call-date, next-end}
use Rattle.muni_terms.proofs.IssueLemmas.{IsIssue, IsPassed, is_issue, is_passed}
use Rattle.muni_sched.specs.Candidates.{redemption_of, calls_of, redemptions_of, IsRedeemedEarlier}
use Rattle.muni_sched.specs.declared.candidate.Candidate.{Candidate}

-- one redemption is before another
abbrev IsBefore : Redemption → Redemption → Type 0
IsBefore redemption other = order_of redemption.date < order_of other.date

-- ---- pairs of lists
all_pairs-append : {X : Type 0} (R : X → X → Type 0) (xs ys : List X) → AllPairs R xs → AllPairs R ys → All (λ x. All (R x) ys) xs → AllPairs R (xs ++ ys)
all_pairs-append R [] ys pairs others cross = others
all_pairs-append {X} R (x ∷ xs) ys pairs others cross =
    let Behind : X → Type 0 = λ x. All (R x) ys in
    AllPairs-cons R x (xs ++ ys)
    (All-append (R x) xs ys (λ k d inside. pairs 0 (suc k) d (omega arith) (omega arith)) (All-head Behind x xs cross))
    (all_pairs-append R xs ys (λ i j d less inside. pairs (suc i) (suc j) d (omega arith) (omega arith)) others (All-tail Behind x xs cross))

all_pairs-map : {X Y : Type 0} (R : Y → Y → Type 0) (f : X → Y) (xs : List X) → AllPairs (λ x y. R (f x) (f y)) xs → AllPairs R (map f xs)
all_pairs-map R f [] pairs = λ i j d less inside. absurd (omega arith)
all_pairs-map R f (x ∷ xs) pairs =
    AllPairs-cons R (f x) (map f xs)
    (All-map (R (f x)) f xs (λ k d inside. pairs 0 (suc k) d (omega arith) (omega arith)))
    (all_pairs-map R f xs (λ i j d less inside. pairs (suc i) (suc j) d (omega arith) (omega arith)))

-- pairs of a list that is seen through a function
all_pairs_from_map : {X Y : Type 0} (R : Y → Y → Type 0) (f : X → Y) (xs : List X) → AllPairs R (map f xs) → AllPairs (λ x y. R (f x) (f y)) xs
all_pairs_from_map R f xs all i j d less inside =
    let long = length-map xs f in
    let first = get_or-map f xs i d (f d) (omega arith) in
    let second = get_or-map f xs j d (f d) inside in
    rw (first, second) at (all i j (f d) less (omega arith))

pub all-both : {X : Type 0} (P Q R : X → Type 0) (xs : List X) → ((x : X) → P x → Q x → R x) → All P xs → All Q xs → All R xs
all-both P Q R [] f all also = All-nil R
all-both P Q R (x ∷ xs) f all also = All-cons R x xs (f x (All-head P x xs all) (All-head Q x xs also)) (all-both P Q R xs f (All-tail P x xs all) (All-tail Q x xs also))

-- ---- the days of one call
-- a quasi-coupon date from a start on and before an end
pub record IsOnRun (anchor start end date : Civil) : Type 0 where
  pub quasi : is_quasi_date anchor date ≡ true
  pub from : order_of start ≤ order_of date
  pub before : order_of date < order_of end

abbrev on_run : Civil → Civil → Civil → Bool
on_run start end date = is_not_after start date && is_before date end

run-dates : (anchor start end : Civil) → All (IsOnRun anchor start end) (filter (on_run start end) (quasi_dates anchor))
run-dates anchor start end =
    let quasi = quasi_dates anchor in
    all-both (λ date. on_run start end date ≡ true) (Contains quasi) (IsOnRun anchor start end) (filter (on_run start end) quasi)
    (λ date passes contained.
    let parts = and_parts (is_not_after start date) (is_before date end) passes in
    record { quasi = contained-test anchor date contained; from = leb-true (order_of start) (order_of date) parts.0; before = ltb-true (order_of date) (order_of end) parts.1 })
    (filter_passes (on_run start end) quasi)
    (All-filter (on_run start end) (Contains quasi) quasi (All-contains_itself quasi))

one-date : (anchor start end : Civil) → IsRedemptionDate anchor start → order_of start < order_of end → All (IsOnRun anchor start end) (start ∷ [])
one-date anchor start end is less = All-cons (IsOnRun anchor start end) start [] (record { quasi = is.quasi; from = omega arith; before = less }) (All-nil (IsOnRun anchor start end))

pub days-on_run : (anchor start end : Civil) (quasi : List Civil) (term : CallTerm) → quasi ≡ quasi_dates anchor → IsRedemptionDate anchor start → order_of start < order_of end → All (IsOnRun anchor start end) (call_days term quasi start end)
days-on_run anchor start end quasi OnDay same is less = one-date anchor start end is less
days-on_run anchor start end quasi OnOrAfter same is less = subst (λ q. All (IsOnRun anchor start end) (call_days OnOrAfter q start end)) (sym same) (run-dates anchor start end)
days-on_run anchor start end quasi Called same is less = one-date anchor start end is less

abbrev IsDateBefore : Civil → Civil → Type 0
IsDateBefore date other = order_of date < order_of other

one-rises : (date : Civil) → AllPairs IsDateBefore (date ∷ [])
one-rises date = λ i j d less inside. absurd (omega arith)

days-rise : (anchor start end : Civil) (quasi : List Civil) (term : CallTerm) → quasi ≡ quasi_dates anchor → AllPairs IsDateBefore (call_days term quasi start end)
days-rise anchor start end quasi OnDay same = one-rises start
days-rise anchor start end quasi OnOrAfter same =
    subst (λ q. AllPairs IsDateBefore (call_days OnOrAfter q start end)) (sym same)
    (AllPairs-filter IsDateBefore (on_run start end) (quasi_dates anchor) (λ i j d less inside. quasi_dates-rise anchor d i j less inside))
days-rise anchor start end quasi Called same = one-rises start

-- ---- a call, and the calls after it
pub record IsCallBefore (row : IssueRow) (call : Call) (calls : List Call) : Type 0 where
  pub anchor : Civil
  pub has : HasCalls row anchor
  pub is_date : IsRedemptionDate anchor (civil call.date)
  pub end : IsEnd row anchor (civil call.date) (end_of (map entry_of calls) (civil row.maturity))
  pub on_run : All (IsOnRun anchor (civil call.date) (end_of (map entry_of calls) (civil row.maturity))) (call_days call.term (quasi_dates_of row) (civil call.date) (end_of (map entry_of calls) (civil row.maturity)))

pub call-before : (row : IssueRow) (before : Option Day) (call : Call) (calls : List Call) → IsIssue row → IsPassed row before call calls → IsCallBefore row call calls
call-before row before call calls issue this =
    let found = has-calls row (civil call.date) issue this.is_call.on_calendar in
    let is_date = call-date row found.0 call issue found.1 this.is_call in
    let end = next-end row found.0 call calls issue found.1 this.is_call this.rest in
    record {
      anchor = found.0;
      has = found.1;
      is_date = is_date;
      end = end;
      on_run = days-on_run found.0 (civil call.date) (end_of (map entry_of calls) (civil row.maturity)) (quasi_dates_of row) call.term found.1.dates is_date end.later;
    }

abbrev redeemed_by : IssueRow → List Call → List Redemption
redeemed_by row calls = redemptions_by (quasi_dates_of row) (map entry_of calls) (civil row.maturity)

abbrev own_of : IssueRow → Call → List Call → List Redemption
own_of row call calls = map (redemption_by (entry_of call)) (call_days call.term (quasi_dates_of row) (civil call.date) (end_of (map entry_of calls) (civil row.maturity)))

-- the redemptions by some calls are not before the first of them, and before maturity
redeemed-from : (row : IssueRow) (floor : ℕ) (before : Option Day) (calls : List Call) → IsIssue row → Check.calls_fault row before calls ≡ None → floor ≤ order_of (end_of (map entry_of calls) (civil row.maturity)) → All (λ it. floor ≤ order_of it.date) (redeemed_by row calls)
unfolding redemptions_by
redeemed-from row floor before [] issue none low = All-nil (λ it. floor ≤ order_of it.date)
redeemed-from row floor before (call ∷ calls) issue none low =
    let From : Redemption → Type 0 = λ it. floor ≤ order_of it.date in
    let this = is_passed row before call calls none in
    let is = call-before row before call calls issue this in
    let end = end_of (map entry_of calls) (civil row.maturity) in
    let later = is.end.later in
    let own = All-map From (redemption_by (entry_of call)) (call_days call.term (quasi_dates_of row) (civil call.date) end)
    (All-weaker (IsOnRun is.anchor (civil call.date) end) (λ date. floor ≤ order_of date) (λ date on. let from = on.from in omega arith) (call_days call.term (quasi_dates_of row) (civil call.date) end) is.on_run) in
    All-append From (own_of row call calls) (redeemed_by row calls) own (redeemed-from row floor (Some call.date) calls issue this.rest (omega arith))

redeemed-below : (row : IssueRow) (before : Option Day) (calls : List Call) → IsIssue row → Check.calls_fault row before calls ≡ None → All (λ it. order_of it.date < order_of (civil row.maturity)) (redeemed_by row calls)
unfolding redemptions_by
redeemed-below row before [] issue none = All-nil (λ it. order_of it.date < order_of (civil row.maturity))
redeemed-below row before (call ∷ calls) issue none =
    let Below : Redemption → Type 0 = λ it. order_of it.date < order_of (civil row.maturity) in
    let this = is_passed row before call calls none in
    let is = call-before row before call calls issue this in
    let end = end_of (map entry_of calls) (civil row.maturity) in
    let up_to = is.end.up_to in
    let own = All-map Below (redemption_by (entry_of call)) (call_days call.term (quasi_dates_of row) (civil call.date) end)
    (All-weaker (IsOnRun is.anchor (civil call.date) end) (λ date. order_of date < order_of (civil row.maturity)) (λ date on. let below = on.before in omega arith) (call_days call.term (quasi_dates_of row) (civil call.date) end) is.on_run) in
    All-append Below (own_of row call calls) (redeemed_by row calls) own (redeemed-below row (Some call.date) calls issue this.rest)

redeemed-rise : (row : IssueRow) (before : Option Day) (calls : List Call) → IsIssue row → Check.calls_fault row before calls ≡ None → AllPairs IsBefore (redeemed_by row calls)
unfolding redemptions_by
redeemed-rise row before [] issue none = λ i j d less inside. absurd (omega arith)
redeemed-rise row before (call ∷ calls) issue none =
    let this = is_passed row before call calls none in
    let is = call-before row before call calls issue this in
    let end = end_of (map entry_of calls) (civil row.maturity) in
    let days = call_days call.term (quasi_dates_of row) (civil call.date) end in
    let rise = all_pairs-map IsBefore (redemption_by (entry_of call)) days (days-rise is.anchor (civil call.date) end (quasi_dates_of row) call.term is.has.dates) in
    let later = redeemed-from row (order_of end) (Some call.date) calls issue this.rest (omega arith) in
    let Behind : Redemption → Type 0 = λ it. All (IsBefore it) (redeemed_by row calls) in
    let cross = All-map Behind (redemption_by (entry_of call)) days
    (All-weaker (IsOnRun is.anchor (civil call.date) end) (λ date. Behind (redemption_by (entry_of call) date))
    (λ date on. All-weaker (λ it. order_of end ≤ order_of it.date) (IsBefore (redemption_by (entry_of call) date)) (λ it from. let below = on.before in omega arith) (redeemed_by row calls) later) days is.on_run) in
    all_pairs-append IsBefore (own_of row call calls) (redeemed_by row calls) rise (redeemed-rise row (Some call.date) calls issue this.rest) cross

-- ---- the redemptions that are to come
final-rise : (calls : List Redemption) (entries : List CallEntry) (maturity : Civil) (called : Bool) → is_called entries ≡ called → AllPairs IsBefore calls → All (λ it. order_of it.date < order_of maturity) calls → AllPairs IsBefore (calls ++ final_redemption entries maturity)
final-rise calls entries maturity true is rise below =
    let all : calls ++ final_redemption entries maturity ≡ calls = rw is (append-nil calls) in
    subst (AllPairs IsBefore) (sym all) rise
final-rise calls entries maturity false is rise below =
    let all : calls ++ final_redemption entries maturity ≡ calls ++ at_maturity maturity ∷ [] = rw is refl in
    subst (AllPairs IsBefore) (sym all) (all_pairs_push IsBefore calls (at_maturity maturity) rise below)

redemptions-rise : (row : IssueRow) (settlement : Civil) → IsIssue row → AllPairs IsBefore (redemptions_after settlement (quasi_dates_of row) (entries_of row) (civil row.maturity))
redemptions-rise row settlement issue =
    let later = λ (it : Redemption). is_before settlement it.date in
    final-rise (to_come_after settlement (calls_of row)) (entries_of row) (civil row.maturity) (is_called (entries_of row)) refl
    (AllPairs-filter IsBefore later (calls_of row) (redeemed-rise row None row.calls.items issue issue.calls))
    (All-filter later (λ it. order_of it.date < order_of (civil row.maturity)) (calls_of row) (redeemed-below row None row.calls.items issue issue.calls))

pub candidates-rise : (row : IssueRow) (settlement : Day) (list : List Candidate) → Check.fault_of row ≡ None → map redemption_of list ≡ redemptions_of row settlement → AllPairs IsRedeemedEarlier list
candidates-rise row settlement list none same =
    let rise : AllPairs IsBefore (redemptions_of row settlement) = redemptions-rise row (civil settlement) (is_issue row none) in
    all_pairs_from_map IsBefore redemption_of list (subst (AllPairs IsBefore) (sym same) rise)
