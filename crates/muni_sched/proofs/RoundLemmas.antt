-- What one round leaves, over lists.
use Rattle.std.proofs.Common.{◌≡◌, ◌<◌, ◌≤◌, ◌+◌, ◌++◌, ℕ, List, [], ◌∷◌, Bool, true, false, All, length, take, drop, set, get_or, arith, slice_set, Option, Some, refl, ap, sym, subst, ◌∙◌}
use Rattle.std.specs.Prelude.{if◌then◌else◌, min}
use Rattle.std.specs.List.{refill, filter, AllZip}
use Rattle.std.proofs.lemmas.List.{take_at, take_more, get_or-drop, length-set}
use Rattle.std.proofs.lemmas.List.Elements.{All-head, All-tail, All-cons, All-nil, All-weaker, filter-append}
use Rattle.std.proofs.lemmas.Slice.Zip.{AllZip-long}
use Rattle.muni_rule.specs.Payments.{PaymentSeries}
use Rattle.muni_rule.specs.declared.verdict.Verdict.{Verdict}
use Rattle.muni_yield.specs.Bracket.{IsBracket, is_settled}
use Rattle.muni_yield.specs.Settled.{outcome_of}
use Rattle.muni_yield.proofs.BracketLemmas.{halved-next}
use Rattle.muni_sched.specs.declared.outcome.CandidateOutcome.{CandidateOutcome}
use Rattle.muni_sched.specs.declared.search.OpenSearch.{OpenSearch}
use Rattle.muni_sched.specs.Search.{SearchState, IsSearch, IsPending, IsOpen, IsHalved, IsRound, noted, recorded, lower_of, missed, is_needed}
use Rattle.muni_sched.specs.YieldOutcome.{many_yield}

-- a list that was written through a slice of all of it
written : {X : Type 0} (before new after : List X) → after ≡ refill (length before) before new → length new ≡ length before → after ≡ new
written before new after is same = is ∙ take_at new (drop (length new) before) (length before) same

-- the searches as they are halved, if the slice holds them
pub halved-now : (verdicts : PaymentSeries → ℕ → ℕ → Verdict) (before slice new after : List OpenSearch) → slice ≡ before → AllZip (IsHalved verdicts) slice new → after ≡ refill (length before) before new → AllZip (IsHalved verdicts) before after
halved-now verdicts before slice new after same each is =
    let zip : AllZip (IsHalved verdicts) before new = subst (λ searches. AllZip (IsHalved verdicts) searches new) same each in
    subst (AllZip (IsHalved verdicts) before) (sym (written before new after is (AllZip-long (IsHalved verdicts) before new zip))) zip

pub half-search : (verdicts : PaymentSeries → ℕ → ℕ → Verdict) (one after : OpenSearch) → IsOpen verdicts one → IsHalved verdicts one after → IsSearch after
half-search verdicts one after is half = subst IsBracket (sym half.bracket) (halved-next verdicts one.guided.bracket is.0 is.1).is

pub halved-searches : (verdicts : PaymentSeries → ℕ → ℕ → Verdict) (searches after : List OpenSearch) → AllZip (IsHalved verdicts) searches after → All (IsOpen verdicts) searches → All IsSearch after
halved-searches verdicts [] [] zip all = All-nil IsSearch
halved-searches verdicts [] (next ∷ after) zip all = absurd zip
halved-searches verdicts (one ∷ rest) [] zip all = absurd zip
halved-searches verdicts (one ∷ rest) (next ∷ after) zip all =
    All-cons IsSearch next after (half-search verdicts one next (All-head (IsOpen verdicts) one rest all) zip.0)
    (halved-searches verdicts rest after zip.1 (All-tail (IsOpen verdicts) one rest all))

pub halved-candidates : (verdicts : PaymentSeries → ℕ → ℕ → Verdict) (searches after : List OpenSearch) (n : ℕ) → AllZip (IsHalved verdicts) searches after → All (λ (one : OpenSearch). one.candidate < n) searches → All (λ (one : OpenSearch). one.candidate < n) after
halved-candidates verdicts [] [] n zip all = All-nil (λ (one : OpenSearch). one.candidate < n)
halved-candidates verdicts [] (next ∷ after) n zip all = absurd zip
halved-candidates verdicts (one ∷ rest) [] n zip all = absurd zip
halved-candidates verdicts (one ∷ rest) (next ∷ after) n zip all =
    All-cons (λ (one : OpenSearch). one.candidate < n) next after
    (subst (λ k. k < n) (sym zip.0.candidate) (All-head (λ (one : OpenSearch). one.candidate < n) one rest all))
    (halved-candidates verdicts rest after n zip.1 (All-tail (λ (one : OpenSearch). one.candidate < n) one rest all))

pub pending-searches : (verdicts : PaymentSeries → ℕ → ℕ → Verdict) (searches : List OpenSearch) → All (IsOpen verdicts) searches → All IsPending searches
pending-searches verdicts searches all = All-weaker (IsOpen verdicts) IsPending (λ one is. is.1) searches all

-- no outcome is added and none lost
length-set_if : (test : Bool) (place : ℕ) (outcome : Option CandidateOutcome) (known : List (Option CandidateOutcome)) → length (if test then slice_set known place outcome else known) ≡ length known
length-set_if true place outcome known = length-set known place outcome
length-set_if false place outcome known = refl

pub length-noted : (one : OpenSearch) (known : List (Option CandidateOutcome)) → length (noted one known) ≡ length known
length-noted one known = length-set_if (is_settled one.guided.bracket) one.candidate (Some (many_yield (outcome_of one.guided.bracket))) known

pub length-recorded : (searches : List OpenSearch) (known : List (Option CandidateOutcome)) → length (recorded searches known) ≡ length known
length-recorded [] known = refl
length-recorded (one ∷ rest) known = length-recorded rest (noted one known) ∙ length-noted one known

pub recorded-now : (searches slice : List OpenSearch) (before known new : List (Option CandidateOutcome)) → slice ≡ searches → known ≡ before → new ≡ recorded slice known → refill (length before) before new ≡ recorded searches before
recorded-now searches slice before known new same all is =
    let now : new ≡ recorded searches before = cc in
    written before new (refill (length before) before new) refl (ap length now ∙ length-recorded searches before) ∙ now

-- ---- the searches that are needed, one by one
read-at : (searches : List OpenSearch) (place : ℕ) (d : OpenSearch) → get_or searches place d ≡ get_or (drop place searches) 0 d
read-at searches place d =
    let same : place + 0 ≡ place = omega arith in
    sym (get_or-drop place searches 0 d ∙ ap (λ k. get_or searches k d) same)

-- one more search, if those from its place on are as they were
pub needed-next : (needed : OpenSearch → Bool) (before searches : List OpenSearch) (place : ℕ) (one : OpenSearch) → place < length before → drop place searches ≡ drop place before → one ≡ get_or searches place one
    → filter needed (take (place + 1) before) ≡ filter needed (take place before) ++ filter needed (one ∷ [])
needed-next needed before searches place one inside rest is =
    let here : get_or before place one ≡ one = read-at before place one ∙ (ap (λ (it : List OpenSearch). get_or it 0 one) (sym rest) ∙ (sym (read-at searches place one) ∙ sym is)) in
    ap (filter needed) (take_more before place one inside ∙ ap (λ (it : OpenSearch). take place before ++ it ∷ []) here)
    ∙ filter-append needed (take place before) (one ∷ [])

-- ---- the one search that is left, in the first slot
pub front-of : (slots : List OpenSearch) (left : ℕ) (d : OpenSearch) → left ≡ 1 → left ≤ length slots → take left slots ≡ get_or slots 0 d ∷ []
front-of [] left d is fits = absurd (omega (arith, is, fits))
front-of (one ∷ rest) left d is fits = ap (λ n. take n (one ∷ rest)) is

pub front-has : (P : OpenSearch → Type 0) (slots : List OpenSearch) (left : ℕ) (d : OpenSearch) → left ≡ 1 → left ≤ length slots → All P (take left slots) → P (get_or slots 0 d)
front-has P slots left d is fits all = All-head P (get_or slots 0 d) [] (subst (All P) (front-of slots left d is fits) all)

pub front-put : (slots : List OpenSearch) (one d : OpenSearch) → 1 ≤ length slots → get_or (set slots 0 one) 0 d ≡ one
front-put [] one d some = absurd (omega (arith, some))
front-put (first ∷ rest) one d some = refl

-- a round of one search
pub one-round : (verdicts : PaymentSeries → ℕ → ℕ → Verdict) (before after : SearchState) (one next told : OpenSearch) → before.searches ≡ one ∷ [] → IsHalved verdicts one next → told ≡ next → after.known ≡ recorded (told ∷ []) before.known → after.ceiling ≡ lower_of before.ceiling (missed told)
    → after.missed ≡ min before.missed told.guided.window.no → after.searches ≡ filter (is_needed after.ceiling after.missed) (told ∷ []) → IsRound verdicts before after
one-round verdicts before after one next told front half is known ceiling least searches = record {
  asked = told ∷ [];
  each = subst (λ (it : List OpenSearch). AllZip (IsHalved verdicts) it (told ∷ [])) (sym front) (subst (IsHalved verdicts one) (sym is) half, tt);
  known = known;
  ceiling = ceiling;
  missed = least;
  searches = searches;
}
