-- The searches when nothing is left to ask.
use Rattle.std.proofs.Common.{◌≡◌, ◌<◌, ◌≤◌, ℕ, List, [], ◌∷◌, true, All, length, Option, Some, None, refl, ap, sym, subst, inl, inr, ⊎_elim, arith, ◌∙◌, ◌⊎◌, ℤ, negsuc, ◌<ℤ◌, ◌≤ℤ◌}
use Rattle.std.specs.Prelude.{◌==◌, unwrap_or}
use Rattle.std.proofs.lemmas.Bool.{cases_lt, eqb-true}
use Rattle.std.proofs.lemmas.Int.{ints}
use Rattle.std.proofs.lemmas.List.{length-map, get_or_default, get_or_past, get_or-map}
use Rattle.muni_rule.specs.Payments.{PaymentSeries}
use Rattle.muni_rule.specs.declared.verdict.Verdict.{Verdict}
use Rattle.muni_sched.specs.FigureKind.{Yield}
use Rattle.muni_sched.specs.LowestFigure.{Lowest}
use Rattle.muni_sched.specs.declared.outcome.CandidateOutcome.{CandidateOutcome}
use Rattle.muni_sched.specs.declared.outcome.CandidateOutcome.TheVariants.{Above}
use Rattle.muni_sched.specs.declared.search.OpenSearch.{OpenSearch}
use Rattle.muni_sched.specs.Figures.{IsOf}
use Rattle.muni_sched.specs.Ranks.{decided_by, IsFirstOfLeastRank, IsRanked}
use Rattle.muni_sched.specs.Search.{SearchState, missed, outcomes_of}
use Rattle.muni_sched.proofs.BetweenLemmas.{at, rank_of, known_at}
use Rattle.muni_sched.proofs.SearchLemmas.{rank-most, IsPast, IsOver, IsBehind, IsSearchedFor, IsCeiling, IsMissedPlace, IsRefined}

-- the outcomes that are known, with Above for those that are not
told-at : (known : List (Option CandidateOutcome)) (k : ℕ) → at (outcomes_of known) k ≡ unwrap_or (known_at known k) Above
told-at known k =
    ⊎_elim
    (λ (inside : k < length known). get_or-map (λ outcome. unwrap_or outcome Above) known k (Some Above) Above inside)
    (λ (past : length known ≤ k).
    let long = length-map known (λ outcome. unwrap_or outcome Above) in
    get_or_past (outcomes_of known) k Above (omega (arith, past, long)) ∙ sym (ap (λ (it : Option CandidateOutcome). unwrap_or it Above) (get_or_past known k (Some Above) past)))
    (cases_lt k (length known))

told-known : (known : List (Option CandidateOutcome)) (k : ℕ) (outcome : CandidateOutcome) → known_at known k ≡ Some outcome → at (outcomes_of known) k ≡ outcome
told-known known k outcome is = told-at known k ∙ ap (λ (it : Option CandidateOutcome). unwrap_or it Above) is

told-unknown : (known : List (Option CandidateOutcome)) (k : ℕ) → known_at known k ≡ None → at (outcomes_of known) k ≡ Above
told-unknown known k is = told-at known k ∙ ap (λ (it : Option CandidateOutcome). unwrap_or it Above) is

-- each outcome is known, or decides nothing
record IsDropped (finals : List CandidateOutcome) (search : SearchState) (k : ℕ) : Type 0 where
  told : at (outcomes_of search.known) k ≡ Above
  past : IsBehind search.ceiling search.missed (rank_of (at finals k))

abbrev IsDecided : (finals : List CandidateOutcome) (search : SearchState) → ℕ → Type 0
IsDecided finals search k = (at (outcomes_of search.known) k ≡ at finals k) ⊎ IsDropped finals search k

over-decided : (verdicts : PaymentSeries → ℕ → ℕ → Verdict) (finals : List CandidateOutcome) (r : ℕ) (search : SearchState) → IsRefined verdicts finals r search → search.searches ≡ [] → (k : ℕ) → IsDecided finals search k
over-decided verdicts finals r search is none k =
    ⊎_elim
    (λ (right : known_at search.known k ≡ Some (at finals k)). inl (told-known search.known k (at finals k) right))
    (λ (left : (known_at search.known k ≡ None) × (IsBehind search.ceiling search.missed (rank_of (at finals k)) ⊎ IsSearchedFor search.searches k)). ⊎_elim
    (λ (past : IsBehind search.ceiling search.missed (rank_of (at finals k))). inr (record { told = told-unknown search.known k left.0; past = past }))
    (λ (has : IsSearchedFor search.searches k). absurd (subst (λ searches. IsSearchedFor searches k) none has))
    left.1)
    (is.covered k)

-- The first of least rank among the outcomes that are known is so among all. A candidate that holds the
-- ceiling is known, so that the least rank is below the ceiling, and each that was dropped is not.
abbrev IsToldOrBehind : (finals told : List CandidateOutcome) (ceiling : Option ℤ) (missed : ℕ) → ℕ → Type 0
IsToldOrBehind finals told ceiling missed j = (at told j ≡ at finals j) ⊎ IsBehind ceiling missed (rank_of (at finals j))

below-past : (finals told : List CandidateOutcome) (ceiling : Option ℤ) (missed c k : ℕ) → IsCeiling finals ceiling → IsMissedPlace finals missed → ((j : ℕ) → IsToldOrBehind finals told ceiling missed j) → IsFirstOfLeastRank (negsuc 5000) told c → IsPast ceiling (rank_of (at finals k)) → rank_of (at told c) <ℤ rank_of (at finals k)
below-past finals told None missed c k holder place decided first past = absurd past
below-past finals told (Some ceiling) missed c k holder place decided first past =
    let holds = holder.1 in
    ⊎_elim
    (λ (right : at told holder.0 ≡ at finals holder.0). let least = first.none_lower holder.0 in omega (arith, ints, least, ap rank_of right, holds, past))
    (λ (behind : IsBehind (Some ceiling) missed (rank_of (at finals holder.0))). ⊎_elim
    (λ (never : ceiling ≤ℤ rank_of (at finals holder.0)). absurd (omega (arith, ints, never, holds)))
    (λ (over : IsOver missed (rank_of (at finals holder.0))).
    let other = place.holder over.0 in
    let misses = other.1 in
    let from = over.1 in
    ⊎_elim
    (λ (right : at told other.0 ≡ at finals other.0). let least = first.none_lower other.0 in omega (arith, ints, least, ap rank_of right, misses, from, holds, past))
    (λ (too : IsBehind (Some ceiling) missed (rank_of (at finals other.0))). ⊎_elim
    (λ (never : ceiling ≤ℤ rank_of (at finals other.0)). absurd (omega (arith, ints, never, misses, from, holds)))
    (λ (never : IsOver missed (rank_of (at finals other.0))). let at_least = never.1 in absurd (omega (arith, ints, at_least, misses)))
    too)
    (decided other.0))
    behind)
    (decided holder.0)

below-behind : (finals told : List CandidateOutcome) (ceiling : Option ℤ) (missed c k : ℕ) → IsCeiling finals ceiling → IsMissedPlace finals missed → ((j : ℕ) → IsToldOrBehind finals told ceiling missed j) → IsFirstOfLeastRank (negsuc 5000) told c → IsBehind ceiling missed (rank_of (at finals k)) → rank_of (at told c) <ℤ rank_of (at finals k)
below-behind finals told ceiling missed c k holder place decided first behind =
    ⊎_elim
    (λ (past : IsPast ceiling (rank_of (at finals k))). below-past finals told ceiling missed c k holder place decided first past)
    (λ (over : IsOver missed (rank_of (at finals k))).
    let other = place.holder over.0 in
    let misses = other.1 in
    let from = over.1 in
    ⊎_elim
    (λ (right : at told other.0 ≡ at finals other.0). let least = first.none_lower other.0 in omega (arith, ints, least, ap rank_of right, misses, from))
    (λ (too : IsBehind ceiling missed (rank_of (at finals other.0))). ⊎_elim
    (λ (past : IsPast ceiling (rank_of (at finals other.0))). let less = below-past finals told ceiling missed c other.0 holder place decided first past in omega (arith, ints, less, misses, from))
    (λ (never : IsOver missed (rank_of (at finals other.0))). let at_least = never.1 in absurd (omega (arith, ints, at_least, misses)))
    too)
    (decided other.0))
    behind

first-of_all : (finals : List CandidateOutcome) (search : SearchState) (c : ℕ) → ((k : ℕ) → IsOf Yield (at finals k)) → IsCeiling finals search.ceiling → IsMissedPlace finals search.missed → ((k : ℕ) → IsDecided finals search k) → IsFirstOfLeastRank (negsuc 5000) (outcomes_of search.known) c
    → IsFirstOfLeastRank (negsuc 5000) finals c × (at (outcomes_of search.known) c ≡ at finals c)
first-of_all finals search c of holder place decided first =
    let told = outcomes_of search.known in
    let below : (k : ℕ) → IsDropped finals search k → rank_of (at told c) <ℤ rank_of (at finals k) =
    λ k dropped. below-behind finals told search.ceiling search.missed c k holder place
    (λ j. ⊎_elim (λ (right : at told j ≡ at finals j). inl right) (λ (it : IsDropped finals search j). inr it.past) (decided j)) first dropped.past in
    let here : at told c ≡ at finals c =
    ⊎_elim
    (λ (right : at told c ≡ at finals c). right)
    (λ (dropped : IsDropped finals search c). absurd (omega (arith, ints, below c dropped, ap rank_of dropped.told, rank-most (at finals c) (of c))))
    (decided c) in (
      record {
        none_lower = λ k. ⊎_elim
            (λ (right : at told k ≡ at finals k). let least = first.none_lower k in omega (arith, ints, least, ap rank_of right, ap rank_of here))
            (λ (dropped : IsDropped finals search k). omega (arith, ints, below k dropped, ap rank_of here))
            (decided k);
        higher_before = λ k before. ⊎_elim
            (λ (right : at told k ≡ at finals k). let least = first.higher_before k before in omega (arith, ints, least, ap rank_of right, ap rank_of here))
            (λ (dropped : IsDropped finals search k). omega (arith, ints, below k dropped, ap rank_of here))
            (decided k);
      },
      here,
    )

pub ranked-of_all : (verdicts : PaymentSeries → ℕ → ℕ → Verdict) (finals : List CandidateOutcome) (r : ℕ) (search : SearchState) (answer : Lowest) → IsRefined verdicts finals r search → search.searches ≡ [] → IsRanked (negsuc 5000) (outcomes_of search.known) answer → IsRanked (negsuc 5000) finals answer
ranked-of_all verdicts finals r search answer is none ranked =
    let decided = over-decided verdicts finals r search is none in
    let first = first-of_all finals search ranked.candidate is.of is.ceiling_is is.missed_is decided ranked.first in
    record {
      candidate = ranked.candidate;
      first = first.0;
      decides = subst (λ outcome. answer ≡ decided_by outcome ranked.candidate) first.1 ranked.decides;
    }

-- what is known is of a yield
pub told-of : (verdicts : PaymentSeries → ℕ → ℕ → Verdict) (finals : List CandidateOutcome) (r : ℕ) (search : SearchState) → IsRefined verdicts finals r search → All (IsOf Yield) (outcomes_of search.known)
told-of verdicts finals r search is = λ k d inside. subst (IsOf Yield) (get_or_default (outcomes_of search.known) k Above d inside)
    (⊎_elim
    (λ (right : known_at search.known k ≡ Some (at finals k)). subst (IsOf Yield) (sym (told-known search.known k (at finals k) right)) (is.of k))
    (λ (left : (known_at search.known k ≡ None) × (IsBehind search.ceiling search.missed (rank_of (at finals k)) ⊎ IsSearchedFor search.searches k)). subst (IsOf Yield) (sym (told-unknown search.known k left.0)) tt)
    (is.covered k))

pub over-none : (searches : List OpenSearch) → (length searches == 0) ≡ true → searches ≡ []
over-none [] over = refl
over-none (one ∷ rest) over = let none : length (one ∷ rest) ≡ 0 = eqb-true (length (one ∷ rest)) 0 over in absurd (omega (arith, none))
