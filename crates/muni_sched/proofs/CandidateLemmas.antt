-- The candidates of an issue's calls, one by one, and that they are one list.
use Rattle.std.proofs.Common.{◌≡◌, ℕ, ◌+◌, ◌*◌, ◌<◌, ◌≤◌, true, false, List, [], ◌∷◌, ◌++◌, length, take, drop, get_or, map, Option, Some, None, sym, subst, ap, ◌∙◌, refl, arith, append_assoc}
use Rattle.std.specs.Prelude.{All, Contains}
use Rattle.std.specs.List.{range_with_len, last_or}
use Rattle.std.proofs.lemmas.Bool.{and_parts}
use Rattle.std.proofs.Math.Seq.{take-length, drop-length}
use Rattle.std.proofs.lemmas.List.{map_more, map_push, map-append, append-nil, length-map}
use Rattle.std.proofs.lemmas.List.Elements.{All-nil, All-push, All-same, All-head, All-tail, Contains-push, filter-append}
use Rattle.std.proofs.lemmas.List.FromFn.{map-range_with_len_more}
use Rattle.muni_rule.specs.Civil.{Civil, is_before, is_not_after, month_index}
use Rattle.muni_rule.specs.QuasiDates.{half_years_after}
use Rattle.muni_rule.specs.Redemptions.{CallEntry, Redemption, at_maturity, is_certain, last_day_by, call_days, end_of, redemption_by, redemptions_by, is_called_by, is_called, final_redemption, to_come_after}
use Rattle.muni_rule.specs.declared.call_term.CallTerm.{CallTerm}
use Rattle.muni_rule.specs.declared.call_term.CallTerm.TheVariants.{OnDay, OnOrAfter, Called}
use Rattle.muni_rule.proofs.RedemptionLemmas.{contains-filter}
use Rattle.muni_days.specs.Day.{civil}
use Rattle.muni_days.specs.declared.day.Day.{Day}
use Rattle.muni_days.proofs.DayLemmas.{same_date}
use Rattle.muni_terms.specs.Issue.{settles, entry_of, entries_of, quasi_dates_of, last_day_of, days_at, day_at}
use Rattle.muni_terms.specs.declared.row.Call.{Call}
use Rattle.muni_terms.specs.declared.row.IssueRow.{IssueRow}
use Rattle.muni_terms.specs.Check.{fault_of}
use Rattle.muni_terms.proofs.CallLemmas.{IsCallAt, call-at}
use Rattle.muni_sched.specs.Shape.{shape_at}
use Rattle.muni_sched.specs.Candidates.{redemption_of, calls_of, HasShape, IsCandidate, AreCandidatesOf, AreCandidates}
use Rattle.muni_sched.specs.CandidateLaws.{AreOneList}
use Rattle.muni_sched.specs.declared.candidate.Candidate.{Candidate}
use Rattle.muni_sched.proofs.DayLemmas.{IsDayOf, is-day_of}

-- ---- the redemptions by the calls before a place
abbrev pub calls_before : IssueRow → ℕ → List Redemption
calls_before row place = redemptions_by (quasi_dates_of row) (map entry_of (take place row.calls.items)) (day_at row place)

end-behind : (entries : List CallEntry) (entry : CallEntry) (maturity : Civil) → end_of (entries ++ entry ∷ []) maturity ≡ end_of entries entry.date
end-behind [] entry maturity = refl
end-behind (first ∷ entries) entry maturity = refl

redemptions-more : (quasi : List Civil) (entries : List CallEntry) (entry : CallEntry) (end : Civil) → redemptions_by quasi (entries ++ entry ∷ []) end ≡ redemptions_by quasi entries entry.date ++ map (redemption_by entry) (call_days entry.term quasi entry.date end)
unfolding redemptions_by
redemptions-more quasi [] entry end = append-nil (map (redemption_by entry) (call_days entry.term quasi entry.date end))
redemptions-more quasi (first ∷ entries) entry end =
    let own = map (redemption_by entry) (call_days entry.term quasi entry.date end) in
    let this = map (redemption_by first) (call_days first.term quasi first.date (end_of entries entry.date)) in
    (λ i. map (redemption_by first) (call_days first.term quasi first.date (end-behind entries entry end i)) ++ redemptions-more quasi entries entry end i)
    ∙ sym (append_assoc this (redemptions_by quasi entries entry.date) own)

-- and those of one more
pub calls-more : (row : IssueRow) (place : ℕ) (call : Call) → place < length row.calls.items → call ≡ get_or row.calls.items place call → IsCallAt row place call →
    calls_before row (place + 1) ≡ calls_before row place ++ map (redemption_by (entry_of call)) (days_at row place)
calls-more row place call inside is at =
    let calls = row.calls.items in
    let quasi = quasi_dates_of row in
    let next : map entry_of (take (place + 1) calls) ≡ map entry_of (take place calls) ++ entry_of call ∷ [] = map_more entry_of calls place call inside ∙ rw (sym is) refl in
    let own : day_at row place ≡ civil call.date = rw at.from refl in
    let days : days_at row place ≡ call_days call.term quasi (civil call.date) (day_at row (place + 1)) = rw at.from refl in
    rw (next, own, days) (redemptions-more quasi (map entry_of (take place calls)) (entry_of call) (day_at row (place + 1)))

pub no-calls : (row : IssueRow) → calls_before row 0 ≡ []
unfolding redemptions_by
no-calls row = refl

pub all-calls : (row : IssueRow) (place : ℕ) (calls : List Call) → calls ≡ row.calls.items → place ≡ length calls → calls_before row place ≡ calls_of row
all-calls row place calls same is =
    let count : place ≡ length row.calls.items = is ∙ ap length same in
    let none : drop place row.calls.items ≡ [] = rw count (drop-length row.calls.items) in
    let all : take place row.calls.items ≡ row.calls.items = rw count (take-length row.calls.items) in
    rw (none, all) refl

-- some days of a call, and one more
abbrev pub days_from : Call → ℕ → List Redemption
days_from call half_years = map (redemption_by (entry_of call)) (map (half_years_after (civil call.date)) (range_with_len 0 half_years))

pub day-more : (before : List Redemption) (call : Call) (half_years : ℕ) → before ++ days_from call (half_years + 1) ≡ (before ++ days_from call half_years) ++ redemption_by (entry_of call) (half_years_after (civil call.date) half_years) ∷ []
day-more before call half_years =
    let dates = map (half_years_after (civil call.date)) (range_with_len 0 half_years) in
    let later = half_years_after (civil call.date) half_years in
    let more = map-range_with_len_more (half_years_after (civil call.date)) 0 half_years half_years (omega arith) in
    ap (λ l. before ++ map (redemption_by (entry_of call)) l) more
    ∙ ap (λ l. before ++ l) (map-append (redemption_by (entry_of call)) dates (later ∷ []))
    ∙ sym (append_assoc before (days_from call half_years) (redemption_by (entry_of call) later ∷ []))

pub all-days : (row : IssueRow) (place : ℕ) (call : Call) (days : ℕ) → place < length row.calls.items → call ≡ get_or row.calls.items place call → IsCallAt row place call → days_at row place ≡ map (half_years_after (day_at row place)) (range_with_len 0 days) → calls_before row place ++ days_from call days ≡ calls_before row (place + 1)
all-days row place call days inside is at found =
    let own : day_at row place ≡ civil call.date = rw at.from refl in
    let same : days_at row place ≡ map (half_years_after (civil call.date)) (range_with_len 0 days) = found ∙ ap (λ date. map (half_years_after date) (range_with_len 0 days)) own in
    sym (calls-more row place call inside is at ∙ ap (λ l. calls_before row place ++ map (redemption_by (entry_of call)) l) same)

-- ---- candidates of redemptions
pub no-candidates : (row : IssueRow) (settlement : Day) → AreCandidatesOf row settlement [] []
no-candidates row settlement = record { redemptions = refl; shapes = All-nil (HasShape row settlement); ranges = All-nil IsCandidate }

all-pushed : {X : Type 0} (P : X → Type 0) (xs ys : List X) (x : X) → ys ≡ xs ++ x ∷ [] → All P xs → P x → All P ys
all-pushed P xs ys x pushed all holds = All-same P ys (xs ++ x ∷ []) pushed (All-push P xs x all holds)

to_come-more : (settlement : Day) (redemptions : List Redemption) (redemption : Redemption) → to_come_after (civil settlement) (redemptions ++ redemption ∷ []) ≡ to_come_after (civil settlement) redemptions ++ to_come_after (civil settlement) (redemption ∷ [])
to_come-more settlement redemptions redemption = filter-append (λ (it : Redemption). is_before (civil settlement) it.date) redemptions (redemption ∷ [])

-- a redemption after the settlement has a candidate
pub day-later : (row : IssueRow) (settlement : Day) (redemptions : List Redemption) (redemption : Redemption) (list new : List Candidate) (candidate : Candidate) → is_before (civil settlement) redemption.date ≡ true → AreCandidatesOf row settlement redemptions list
    → redemption_of candidate ≡ redemption → HasShape row settlement candidate → IsCandidate candidate → new ≡ list ++ candidate ∷ [] → AreCandidatesOf row settlement (redemptions ++ redemption ∷ []) new
day-later row settlement redemptions redemption list new candidate later so_far redeemed shaped in_range pushed =
    let here : to_come_after (civil settlement) (redemption ∷ []) ≡ redemption ∷ [] = rw later refl in
    let before = so_far.redemptions in
    record {
      redemptions = rw (pushed, map_push redemption_of list candidate, to_come-more settlement redemptions redemption, before, here, redeemed) refl;
      shapes = all-pushed (HasShape row settlement) list new candidate pushed so_far.shapes shaped;
      ranges = all-pushed IsCandidate list new candidate pushed so_far.ranges in_range;
    }

-- and no other has
pub day-earlier : (row : IssueRow) (settlement : Day) (redemptions : List Redemption) (redemption : Redemption) (list : List Candidate) → is_before (civil settlement) redemption.date ≡ false → AreCandidatesOf row settlement redemptions list → AreCandidatesOf row settlement (redemptions ++ redemption ∷ []) list
day-earlier row settlement redemptions redemption list earlier so_far =
    let none : to_come_after (civil settlement) (redemption ∷ []) ≡ [] = rw earlier refl in
    let same : to_come_after (civil settlement) (redemptions ++ redemption ∷ []) ≡ to_come_after (civil settlement) redemptions = rw none at (to_come-more settlement redemptions redemption) ∙ append-nil (to_come_after (civil settlement) redemptions) in
    record { redemptions = so_far.redemptions ∙ sym same; shapes = so_far.shapes; ranges = so_far.ranges }

-- the candidates of all redemptions: those of the calls, and that of the maturity unless the issue has been called
pub are_candidates : (row : IssueRow) (settlement : Day) (list new : List Candidate) (candidate : Candidate) → is_called (entries_of row) ≡ false → AreCandidatesOf row settlement (calls_of row) list → redemption_of candidate ≡ at_maturity (civil row.maturity) → HasShape row settlement candidate → IsCandidate candidate → new ≡ list ++ candidate ∷ []
    → AreCandidates row settlement new
are_candidates row settlement list new candidate uncalled calls redeemed shaped in_range pushed =
    let final : final_redemption (entries_of row) (civil row.maturity) ≡ at_maturity (civil row.maturity) ∷ [] = rw uncalled refl in
    let before = calls.redemptions in
    record {
      redemptions = rw (pushed, map_push redemption_of list candidate, before, redeemed, final) refl;
      shapes = all-pushed (HasShape row settlement) list new candidate pushed calls.shapes shaped;
      ranges = all-pushed IsCandidate list new candidate pushed calls.ranges in_range;
    }

pub are_called : (row : IssueRow) (settlement : Day) (list : List Candidate) → is_called (entries_of row) ≡ true → AreCandidatesOf row settlement (calls_of row) list → AreCandidates row settlement list
are_called row settlement list called calls =
    let final : final_redemption (entries_of row) (civil row.maturity) ≡ [] = rw called refl in
    let all : to_come_after (civil settlement) (calls_of row) ++ final_redemption (entries_of row) (civil row.maturity) ≡ to_come_after (civil settlement) (calls_of row) = rw final (append-nil (to_come_after (civil settlement) (calls_of row))) in
    record { redemptions = calls.redemptions ∙ sym all; shapes = calls.shapes; ranges = calls.ranges }

-- ---- one list
some-same : {X : Type 0} (x y : X) → Some x ≡ Some y → x ≡ y
some-same x y same = cc

candidate-same : (row : IssueRow) (settlement : Day) (one other : Candidate) → redemption_of one ≡ redemption_of other → HasShape row settlement one → HasShape row settlement other → one ≡ other
candidate-same row settlement one other redeemed is also =
    let date : one.date ≡ other.date = same_date one.date other.date (ap (λ (it : Redemption). it.date) redeemed) in
    let price : one.price ≡ other.price = ap (λ (it : Redemption). it.price) redeemed in
    let labelled : one.label ≡ other.label = ap (λ (it : Redemption). it.label) redeemed in
    let shape : one.shape ≡ other.shape = some-same one.shape other.shape (is ∙ (λ i. shape_at row settlement (date i) (price i)) ∙ sym also) in
    λ i. record { date = date i; price = price i; label = labelled i; shape = shape i }

lists-same : (row : IssueRow) (settlement : Day) (list others : List Candidate) → map redemption_of list ≡ map redemption_of others → All (HasShape row settlement) list → All (HasShape row settlement) others → list ≡ others
lists-same row settlement [] [] redeemed shapes also = refl
lists-same row settlement [] (z ∷ zs) redeemed shapes also = absurd (let never : [] ≡ redemption_of z ∷ map redemption_of zs = redeemed in cc)
lists-same row settlement (x ∷ xs) [] redeemed shapes also = absurd (let never : redemption_of x ∷ map redemption_of xs ≡ [] = redeemed in cc)
lists-same row settlement (x ∷ xs) (z ∷ zs) redeemed shapes also =
    let all : redemption_of x ∷ map redemption_of xs ≡ redemption_of z ∷ map redemption_of zs = redeemed in
    let here : redemption_of x ≡ redemption_of z = cc in
    let rest : map redemption_of xs ≡ map redemption_of zs = cc in
    let first = candidate-same row settlement x z here (All-head (HasShape row settlement) x xs shapes) (All-head (HasShape row settlement) z zs also) in
    let behind = lists-same row settlement xs zs rest (All-tail (HasShape row settlement) x xs shapes) (All-tail (HasShape row settlement) z zs also) in
    λ i. first i ∷ behind i

pub one-list : AreOneList
one-list row settlement one other is also = lists-same row settlement one other (is.redemptions ∙ sym also.redemptions) is.shapes also.shapes

-- ---- a call as it is read
-- the call at a place, and one of its days
pub record IsReadDay (row : IssueRow) (place : ℕ) (call : Call) (half_years : ℕ) : Type 0 where
  pub at : IsCallAt row place call
  pub is_day : IsDayOf row call half_years

pub read-day : (row : IssueRow) (calls : List Call) (place half_years days : ℕ) (call : Call) → fault_of row ≡ None → calls ≡ row.calls.items → place < length calls → call ≡ get_or calls place call → half_years < days → month_index (day_at row place) + 6 * days ≤ month_index (day_at row (place + 1)) → IsReadDay row place call half_years
read-day row calls place half_years days call none items inside is less within =
    let within_items : place < length row.calls.items = rw items at inside in
    let at = call-at row place call none within_items (rw items at is) in
    record { at = at; is_day = is-day_of row place call half_years days none at (omega arith) less within }

-- ---- an issue that has been called has a candidate at each settlement
split-last : (before : Option CallEntry) (first : CallEntry) (entries : List CallEntry) (last : CallEntry) → last_or before (first ∷ entries) ≡ Some last → (rest : List CallEntry) × (first ∷ entries ≡ rest ++ last ∷ [])
split-last before first [] last is = let same : first ≡ last = some-same first last is in ([], λ i. same i ∷ [])
split-last before first (next ∷ entries) last is =
    let found = split-last (Some first) next entries last is in
    (first ∷ found.0, ap (λ l. first ∷ l) found.1)

last-split : (entries : List CallEntry) (last : CallEntry) → last_or None entries ≡ Some last → (rest : List CallEntry) × (entries ≡ rest ++ last ∷ [])
last-split [] last is = absurd (let never : None ≡ Some last = is in cc)
last-split (first ∷ entries) last is = split-last None first entries last is

called-by : (last : Option CallEntry) → is_called_by last ≡ true → (entry : CallEntry) × (last ≡ Some entry) × (is_certain entry.term ≡ true)
called-by None called = absurd (cc)
called-by (Some entry) called = (entry, refl, called)

certain-day : (term : CallTerm) (quasi : List Civil) (date end : Civil) → is_certain term ≡ true → call_days term quasi date end ≡ date ∷ []
certain-day OnDay quasi date end certain = absurd (cc)
certain-day OnOrAfter quasi date end certain = absurd (cc)
certain-day Called quasi date end certain = refl

last_day-certain : (entry : CallEntry) (maturity : Civil) → is_certain entry.term ≡ true → last_day_by (Some entry) maturity ≡ entry.date
last_day-certain entry maturity certain = rw certain refl

some-item : {X : Type 0} (xs : List X) (x : X) → Contains xs x → 0 < length xs
some-item xs x contained = let inside = contained.1 in omega arith

pub some-called : (row : IssueRow) (settlement : Day) (list : List Candidate) → is_called (entries_of row) ≡ true → settles row settlement ≡ true → AreCandidatesOf row settlement (calls_of row) list → 1 ≤ length list
some-called row settlement list called settled are =
    let entries = entries_of row in
    let found = called-by (last_or None entries) called in
    let entry = found.0 in
    let split = last-split entries entry found.1 in
    let quasi = quasi_dates_of row in
    let redemption = redemption_by entry entry.date in
    let own : map (redemption_by entry) (call_days entry.term quasi entry.date (civil row.maturity)) ≡ redemption ∷ [] = ap (map (redemption_by entry)) (certain-day entry.term quasi entry.date (civil row.maturity) found.2) in
    let all : calls_of row ≡ redemptions_by quasi split.0 entry.date ++ redemption ∷ [] =
    ap (λ l. redemptions_by quasi l (civil row.maturity)) split.1 ∙ redemptions-more quasi split.0 entry (civil row.maturity) ∙ ap (λ l. redemptions_by quasi split.0 entry.date ++ l) own in
    let contained : Contains (calls_of row) redemption = subst (λ l. Contains l redemption) (sym all) (Contains-push (redemptions_by quasi split.0 entry.date) redemption) in
    let last : last_day_of row ≡ entry.date = ap (λ l. last_day_by l (civil row.maturity)) found.1 ∙ last_day-certain entry (civil row.maturity) found.2 in
    let parts = and_parts (is_not_after (civil row.dated) (civil settlement)) (is_before (civil settlement) (last_day_of row)) settled in
    let later : is_before (civil settlement) redemption.date ≡ true = ap (is_before (civil settlement)) (sym last) ∙ parts.1 in
    let to_come = contains-filter (λ (it : Redemption). is_before (civil settlement) it.date) (calls_of row) redemption contained later in
    let some = some-item (to_come_after (civil settlement) (calls_of row)) redemption to_come in
    let long = length-map list redemption_of in
    let count = ap length are.redemptions in
    omega arith
