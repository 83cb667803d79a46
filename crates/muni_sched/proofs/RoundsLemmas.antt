-- What rounds leave that follow one another.
use Rattle.std.proofs.Common.{◌≡◌, ◌<◌, ◌≤◌, ◌+◌, ◌-◌, ℕ, zero, suc, List, [], ◌∷◌, Bool, true, false, not, ◌&&◌, slice_set, Option, Some, refl, sym, subst, arith, ℤ}
use Rattle.std.specs.Prelude.{if◌then◌else◌, min, nat_lt}
use Rattle.std.specs.List.{filter}
use Rattle.muni_rule.specs.Payments.{PaymentSeries}
use Rattle.muni_rule.specs.declared.verdict.Verdict.{Verdict}
use Rattle.muni_yield.specs.Bracket.{is_settled}
use Rattle.muni_yield.specs.Settled.{outcome_of}
use Rattle.muni_sched.specs.declared.candidate.Candidate.{Candidate}
use Rattle.muni_sched.specs.declared.outcome.CandidateOutcome.{CandidateOutcome}
use Rattle.muni_sched.specs.declared.search.OpenSearch.{OpenSearch}
use Rattle.muni_sched.specs.Search.{SearchState, AreRounds, IsHalved, IsRound, is_needed, is_over, is_passed, lower_of, missed, recorded}
use Rattle.muni_sched.specs.YieldOutcome.{many_yield}
use Rattle.muni_sched.proofs.CountLemmas.{IsCounted, counted-next}
use Rattle.muni_sched.proofs.RoundLemmas.{one-round}
use Rattle.muni_sched.proofs.SearchLemmas.{needed-pending, round-few}
use Rattle.muni_sched.proofs.StartLemmas.{IsFinal, next-final}

-- all that is kept, after r rounds
pub record IsAfterRounds (verdicts : PaymentSeries → ℕ → ℕ → Verdict) (price : ℕ) (list : List Candidate) (first : Option ℤ) (r : ℕ) (search : SearchState) : Type 0 where
  pub final : IsFinal verdicts price list r search
  pub counted : IsCounted verdicts price list first r search

pub rounds-after : (verdicts : PaymentSeries → ℕ → ℕ → Verdict) (price : ℕ) (list : List Candidate) (first : Option ℤ) (r count : ℕ) (search after : SearchState) → AreRounds verdicts count search after → IsAfterRounds verdicts price list first r search → IsAfterRounds verdicts price list first (r + count) after
rounds-after verdicts price list first r zero search after same is =
    let none : r + zero ≡ r = omega arith in
    subst (λ k. IsAfterRounds verdicts price list first k after) (sym none) (subst (IsAfterRounds verdicts price list first r) (sym same) is)
rounds-after verdicts price list first r (suc count) search after more is =
    let before = rounds-after verdicts price list first r count search more.before more.rounds is in
    let few = round-few verdicts before.final.finals (r + count) more.before before.final.refined more.pending in
    let next : r + count + 1 ≡ r + suc count = omega arith in
    subst (λ k. IsAfterRounds verdicts price list first k after) next (record {
      final = next-final verdicts price list (r + count) more.before after few more.round before.final;
      counted = counted-next verdicts before.final.finals price list first (r + count) more.before after few more.pending before.final.refined more.round before.counted;
    })

-- there are at most 19
pub rounds-few : (verdicts : PaymentSeries → ℕ → ℕ → Verdict) (price : ℕ) (list : List Candidate) (first : Option ℤ) (r count : ℕ) (search after : SearchState) → AreRounds verdicts count search after → r ≤ 19 → IsAfterRounds verdicts price list first r search → r + count ≤ 19
rounds-few verdicts price list first r zero search after same most is = omega (arith, most)
rounds-few verdicts price list first r (suc count) search after more most is =
    let before = rounds-after verdicts price list first r count search more.before more.rounds is in
    let few = round-few verdicts before.final.finals (r + count) more.before before.final.refined more.pending in
    omega (arith, few)

-- ---- rounds by their numbers
pub no-rounds : (verdicts : PaymentSeries → ℕ → ℕ → Verdict) (r : ℕ) (search after : SearchState) → after ≡ search → AreRounds verdicts (r - r) search after
no-rounds verdicts r search after same =
    let none : zero ≡ r - r = omega arith in
    subst (λ count. AreRounds verdicts count search after) none same

pub more-rounds : (verdicts : PaymentSeries → ℕ → ℕ → Verdict) (from to : ℕ) (start before after : SearchState) → from ≤ to → AreRounds verdicts (to - from) start before → is_over before ≡ false → IsRound verdicts before after → AreRounds verdicts (to + 1 - from) start after
more-rounds verdicts from to start before after order rounds pending round =
    let next : suc (to - from) ≡ to + 1 - from = omega arith in
    subst (λ count. AreRounds verdicts count start after) next (record { before = before; rounds = rounds; pending = pending; round = round })

-- ---- rounds of one search
abbrev pub alone : List (Option CandidateOutcome) → Option ℤ → ℕ → List OpenSearch → SearchState
alone known ceiling least searches = record { known = known; searches = searches; ceiling = ceiling; missed = least }

not-written : (test : Bool) (known after : List (Option CandidateOutcome)) → test ≡ false → known ≡ (if test then after else known)
not-written true known after none = cc
not-written false known after none = refl

-- it goes on
pub round-needed : (verdicts : PaymentSeries → ℕ → ℕ → Verdict) (known : List (Option CandidateOutcome)) (ceiling now : Option ℤ) (least place : ℕ) (one next : OpenSearch) → IsHalved verdicts one next → now ≡ lower_of ceiling (missed next) → place ≡ min least next.guided.window.no → is_needed now place next ≡ true
    → IsRound verdicts (alone known ceiling least (one ∷ [])) (alone known now place (next ∷ []))
round-needed verdicts known ceiling now least place one next half lower less needs =
    let pending = needed-pending (is_settled next.guided.bracket) (is_passed now next.guided.bracket) (nat_lt next.guided.window.yes place) needs in
    one-round verdicts (alone known ceiling least (one ∷ [])) (alone known now place (next ∷ [])) one next next refl half refl
    (not-written (is_settled next.guided.bracket) known (slice_set known next.candidate (Some (many_yield (outcome_of next.guided.bracket)))) pending)
    lower less (rw needs refl)

-- and it ends
pub round-last : (verdicts : PaymentSeries → ℕ → ℕ → Verdict) (known after : List (Option CandidateOutcome)) (ceiling now : Option ℤ) (least place : ℕ) (one next : OpenSearch) → IsHalved verdicts one next → after ≡ recorded (next ∷ []) known → now ≡ lower_of ceiling (missed next) → place ≡ min least next.guided.window.no → is_needed now place next ≡ false
    → IsRound verdicts (alone known ceiling least (one ∷ [])) (alone after now place [])
round-last verdicts known after ceiling now least place one next half is lower less over =
    one-round verdicts (alone known ceiling least (one ∷ [])) (alone after now place []) one next next refl half refl is lower less (rw over refl)
