-- What the searches keep holds before the first round, and after each.
use Rattle.std.proofs.Common.{◌≡◌, ◌<◌, ◌≤◌, ◌+◌, ℕ, zero, suc, List, [], ◌∷◌, ◌++◌, All, true, false, length, Option, Some, None, refl, ap, sym, subst, inl, inr, ⊎_elim, arith, ◌∙◌, ◌⊎◌, ℤ}
use Rattle.std.specs.Prelude.{unwrap_or, is_some}
use Rattle.std.specs.List.{AllZip}
use Rattle.std.proofs.lemmas.Int.{ints}
use Rattle.std.proofs.lemmas.List.{get_or_default}
use Rattle.std.proofs.lemmas.List.Elements.{All-head, All-tail, All-cons, All-nil}
use Rattle.muni_rule.specs.Payments.{PaymentSeries, IsSeries}
use Rattle.muni_rule.specs.WorthEnds.{WorthEnds}
use Rattle.muni_rule.specs.declared.verdict.Verdict.{Verdict}
use Rattle.muni_yield.specs.Bracket.{start_of}
use Rattle.muni_yield.specs.Known.{IsWindow, window_first, guided_start}
use Rattle.muni_yield.specs.Places.{place_verdict}
use Rattle.muni_yield.specs.Settled.{final_of}
use Rattle.muni_yield.proofs.BracketLemmas.{start-is}
use Rattle.muni_sched.specs.declared.candidate.Candidate.{Candidate}
use Rattle.muni_sched.specs.declared.candidate.Shape.{Shape}
use Rattle.muni_sched.specs.declared.candidate.Shape.TheVariants.{Many, One, AtRedemption, Discount}
use Rattle.muni_sched.specs.FigureKind.{Yield}
use Rattle.muni_sched.specs.declared.outcome.CandidateOutcome.{CandidateOutcome}
use Rattle.muni_sched.specs.declared.outcome.CandidateOutcome.TheVariants.{Print, Unsure, Below, Above, NoTime}
use Rattle.muni_sched.specs.declared.search.OpenSearch.{OpenSearch}
use Rattle.muni_sched.specs.Candidates.{IsCandidate}
use Rattle.muni_sched.specs.Figures.{IsOf}
use Rattle.muni_sched.specs.Lowest as lowest
use Rattle.muni_sched.specs.Search.{SearchState, IsKnownYield, missed_first, lower_of, ceiling_first, searches_for, searches_from, IsStarted, IsRound, is_over, outcomes_of}
use Rattle.muni_sched.specs.SearchedOut.{AreSearchedOut}
use Rattle.muni_sched.specs.Shape.{IsPriceable}
use Rattle.muni_sched.specs.ToCome.{ToCome, many, one, to_come_of}
use Rattle.muni_sched.specs.YieldOutcome.{final, IsYieldOutcomeFor, IsCandidateYield, IsKnownFor, IsKnownFirst}
use Rattle.muni_sched.proofs.BetweenLemmas.{rank_of, known_at, between}
use Rattle.muni_sched.proofs.SearchLemmas.{IsRunning, IsSearchedFor, IsCeiling, IsMissedPlace, IsRefined, lower-ceiling, refined-keeps}
use Rattle.muni_sched.proofs.OverLemmas.{ranked-of_all, over-none, told-of}

abbrev at : List CandidateOutcome → ℕ → CandidateOutcome
at outcomes k = lowest.outcome_at outcomes k

-- many payments that may be searched
abbrev pub MayBeSearched : ToCome → Type 0
MayBeSearched (many series) = IsSeries series × (2 ≤ series.n)
MayBeSearched (one least payment) = Unit

pub may_be : (shape : Shape) → IsPriceable shape → MayBeSearched (to_come_of shape)
may_be (Many series) is = is
may_be (One payment) is = tt
may_be (AtRedemption payment) is = tt
may_be (Discount days basis) is = tt

-- The outcome that a candidate comes to: that of its search, or the one that is known.
abbrev final-for : (verdicts : PaymentSeries → ℕ → ℕ → Verdict) (price : ℕ) → ToCome → Option CandidateOutcome → CandidateOutcome
final-for verdicts price (many series) known = final verdicts price series
final-for verdicts price (one least payment) known = unwrap_or known Above

abbrev finals-of : (verdicts : PaymentSeries → ℕ → ℕ → Verdict) (price : ℕ) → List Candidate → List (Option CandidateOutcome) → List CandidateOutcome
finals-of verdicts price [] known = []
finals-of verdicts price (candidate ∷ list) [] = []
finals-of verdicts price (candidate ∷ list) (it ∷ known) = final-for verdicts price (to_come_of candidate.shape) it ∷ finals-of verdicts price list known

final-is : (verdicts : PaymentSeries → ℕ → ℕ → Verdict) (price : ℕ) (to_come : ToCome) (known : Option CandidateOutcome) → IsKnownFor price to_come known → IsYieldOutcomeFor verdicts price to_come (final-for verdicts price to_come known)
final-is verdicts price (many series) known is = refl
final-is verdicts price (one least payment) known is =
    subst (λ it. IsYieldOutcomeFor verdicts price (one least payment) (unwrap_or it Above)) (sym is.2) is.1

finals-are : (verdicts : PaymentSeries → ℕ → ℕ → Verdict) (price : ℕ) (list : List Candidate) (known : List (Option CandidateOutcome)) → AllZip (IsKnownFirst price) list known → AllZip (IsCandidateYield verdicts price) list (finals-of verdicts price list known)
finals-are verdicts price [] [] all = tt
finals-are verdicts price [] (it ∷ known) all = absurd all
finals-are verdicts price (candidate ∷ list) [] all = absurd all
finals-are verdicts price (candidate ∷ list) (it ∷ known) all =
    (final-is verdicts price (to_come_of candidate.shape) it all.0, finals-are verdicts price list known all.1)

length-finals : (verdicts : PaymentSeries → ℕ → ℕ → Verdict) (price : ℕ) (list : List Candidate) (known : List (Option CandidateOutcome)) → AllZip (IsKnownFirst price) list known → (length known ≡ length list) × (length (finals-of verdicts price list known) ≡ length list)
length-finals verdicts price [] [] all = (refl, refl)
length-finals verdicts price [] (it ∷ known) all = absurd all
length-finals verdicts price (candidate ∷ list) [] all = absurd all
length-finals verdicts price (candidate ∷ list) (it ∷ known) all =
    let rest = length-finals verdicts price list known all.1 in (ap suc rest.0, ap suc rest.1)

-- all are of yields
final-of_yield : (verdicts : PaymentSeries → ℕ → ℕ → Verdict) (price : ℕ) (series : PaymentSeries) → 2 ≤ series.n → 0 < price → IsOf Yield (final verdicts price series)
unfolding final_of
final-of_yield verdicts price series more some = (between 19 verdicts (start_of series price) (start-is series price more some) (omega arith)).of

known-of : (known : Option CandidateOutcome) → IsKnownYield known → IsOf Yield (unwrap_or known Above)
known-of None of = tt
known-of (Some outcome) of = of

for-of : (verdicts : PaymentSeries → ℕ → ℕ → Verdict) (price : ℕ) (to_come : ToCome) (known : Option CandidateOutcome) → MayBeSearched to_come → 0 < price → IsKnownYield known → IsOf Yield (final-for verdicts price to_come known)
for-of verdicts price (many series) known more some of = final-of_yield verdicts price series more.1 some
for-of verdicts price (one least payment) known more some of = known-of known of

finals-of_yield : (verdicts : PaymentSeries → ℕ → ℕ → Verdict) (price : ℕ) (list : List Candidate) (known : List (Option CandidateOutcome)) → 0 < price → All IsCandidate list → All IsKnownYield known → (k : ℕ) → IsOf Yield (at (finals-of verdicts price list known) k)
finals-of_yield verdicts price [] known some all of k = tt
finals-of_yield verdicts price (candidate ∷ list) [] some all of k = tt
finals-of_yield verdicts price (candidate ∷ list) (it ∷ known) some all of zero =
    for-of verdicts price (to_come_of candidate.shape) it (may_be candidate.shape (All-head IsCandidate candidate list all)) some (All-head IsKnownYield it known of)
finals-of_yield verdicts price (candidate ∷ list) (it ∷ known) some all of (suc k) =
    finals-of_yield verdicts price list known some (All-tail IsCandidate candidate list all) (All-tail IsKnownYield it known of) k

-- what the sum of the payments says is so
abbrev pub AreFirstKnown : (verdicts : PaymentSeries → ℕ → ℕ → Verdict) (price : ℕ) → Type 0
AreFirstKnown verdicts price = (series : PaymentSeries) → IsSeries series → 2 ≤ series.n → IsWindow (verdicts series price) (window_first series price)

-- each search comes to the outcome of its candidate
started-running : (verdicts : PaymentSeries → ℕ → ℕ → Verdict) (price : ℕ) (finals : List CandidateOutcome) (c : ℕ) (series : PaymentSeries) → 2 ≤ series.n → 0 < price → c < length finals → at finals c ≡ final verdicts price series → IsWindow (verdicts series price) (window_first series price) → IsRunning verdicts finals 0 (record { candidate = c; guided = guided_start series price })
unfolding final_of
started-running verdicts price finals c series more some inside is known = record {
  is = start-is series price more some;
  pending = refl;
  halvings = refl;
  within = inside;
  answered = record { low = inl refl; high = inl (refl, refl) };
  guided = known;
  same = sym is;
}

running-for : (verdicts : PaymentSeries → ℕ → ℕ → Verdict) (price : ℕ) (finals : List CandidateOutcome) (c : ℕ) (to_come : ToCome) (known : Option CandidateOutcome) (rest : List OpenSearch) → AreFirstKnown verdicts price → MayBeSearched to_come → 0 < price → c < length finals → at finals c ≡ final-for verdicts price to_come known → All (IsRunning verdicts finals 0) rest → All (IsRunning verdicts finals 0) (searches_for price c to_come rest)
running-for verdicts price finals c (many series) known rest first more some inside is all =
    All-cons (IsRunning verdicts finals 0) (record { candidate = c; guided = guided_start series price }) rest (started-running verdicts price finals c series more.1 some inside is (first series more.0 more.1)) all
running-for verdicts price finals c (one least payment) known rest first more some inside is all = all

next-candidate : (finals rest : List CandidateOutcome) (c : ℕ) (first : CandidateOutcome) → ((j : ℕ) → at finals (c + j) ≡ at (first ∷ rest) j) → (j : ℕ) → at finals (c + 1 + j) ≡ at rest j
next-candidate finals rest c first same j = let next : c + 1 + j ≡ c + suc j = omega arith in ap (at finals) next ∙ same (suc j)

running-from : (verdicts : PaymentSeries → ℕ → ℕ → Verdict) (price : ℕ) (finals : List CandidateOutcome) (c : ℕ) (list : List Candidate) (known : List (Option CandidateOutcome)) → AreFirstKnown verdicts price → 0 < price → All IsCandidate list → AllZip (IsKnownFirst price) list known → c + length list ≤ length finals
    → ((j : ℕ) → at finals (c + j) ≡ at (finals-of verdicts price list known) j) → All (IsRunning verdicts finals 0) (searches_from price c list)
running-from verdicts price finals c [] known first some all zip room same = All-nil (IsRunning verdicts finals 0)
running-from verdicts price finals c (candidate ∷ list) [] first some all zip room same = absurd zip
running-from verdicts price finals c (candidate ∷ list) (it ∷ known) first some all zip room same =
    let here : c + 0 ≡ c = omega arith in
    running-for verdicts price finals c (to_come_of candidate.shape) it (searches_from price (c + 1) list) first
    (may_be candidate.shape (All-head IsCandidate candidate list all)) some (omega arith) (sym (ap (at finals) here) ∙ same 0)
    (running-from verdicts price finals (c + 1) list known first some (All-tail IsCandidate candidate list all) zip.1 (omega arith)
    (next-candidate finals (finals-of verdicts price list known) c (final-for verdicts price (to_come_of candidate.shape) it) same))

few-for : (price c : ℕ) (to_come : ToCome) (rest : List OpenSearch) (n : ℕ) → length rest ≤ n → length (searches_for price c to_come rest) ≤ suc n
few-for price c (many series) rest n few = omega (arith, few)
few-for price c (one least payment) rest n few = omega (arith, few)

few-from : (price c : ℕ) (list : List Candidate) → length (searches_from price c list) ≤ length list
few-from price c [] = omega arith
few-from price c (candidate ∷ list) = few-for price c (to_come_of candidate.shape) (searches_from price (c + 1) list) (length list) (few-from price (c + 1) list)

-- each outcome is known, or searched
abbrev IsFound : (finals : List CandidateOutcome) (known : List (Option CandidateOutcome)) (searches : List OpenSearch) (c j : ℕ) → Type 0
IsFound finals known searches c j = (known_at known j ≡ Some (at finals j)) ⊎ ((known_at known j ≡ None) × IsSearchedFor searches (c + j))

found-here : (verdicts : PaymentSeries → ℕ → ℕ → Verdict) (price c : ℕ) (to_come : ToCome) (known : Option CandidateOutcome) (rest : List OpenSearch) → IsKnownFor price to_come known → (known ≡ Some (final-for verdicts price to_come known)) ⊎ ((known ≡ None) × IsSearchedFor (searches_for price c to_come rest) (c + 0))
found-here verdicts price c (many series) known rest is = inr (is, inl (omega arith))
found-here verdicts price c (one least payment) known rest is = inl (is.2 ∙ ap (λ it. Some (unwrap_or it Above)) (sym is.2))

found-later : (price c : ℕ) (to_come : ToCome) (rest : List OpenSearch) (k : ℕ) → IsSearchedFor rest k → IsSearchedFor (searches_for price c to_come rest) k
found-later price c (many series) rest k has = inr has
found-later price c (one least payment) rest k has = has

found : (verdicts : PaymentSeries → ℕ → ℕ → Verdict) (price c : ℕ) (list : List Candidate) (known : List (Option CandidateOutcome)) → AllZip (IsKnownFirst price) list known → (j : ℕ) → IsFound (finals-of verdicts price list known) known (searches_from price c list) c j
found verdicts price c [] [] zip j = inl refl
found verdicts price c [] (it ∷ known) zip j = absurd zip
found verdicts price c (candidate ∷ list) [] zip j = absurd zip
found verdicts price c (candidate ∷ list) (it ∷ known) zip zero = found-here verdicts price c (to_come_of candidate.shape) it (searches_from price (c + 1) list) zip.0
found verdicts price c (candidate ∷ list) (it ∷ known) zip (suc j) =
    ⊎_elim
    (λ (right : known_at known j ≡ Some (at (finals-of verdicts price list known) j)). inl right)
    (λ (left : (known_at known j ≡ None) × IsSearchedFor (searches_from price (c + 1) list) (c + 1 + j)).
    let next : c + 1 + j ≡ c + suc j = omega arith in
    inr (left.0, found-later price c (to_come_of candidate.shape) (searches_from price (c + 1) list) (c + suc j) (subst (IsSearchedFor (searches_from price (c + 1) list)) next left.1)))
    (found verdicts price (c + 1) list known zip.1 j)

-- one outcome more
pub ceiling-next : (ceiling : Option ℤ) (known : List (Option CandidateOutcome)) (next : Option CandidateOutcome) → ceiling_first ceiling (known ++ next ∷ []) ≡ lower_of (ceiling_first ceiling known) (missed_first next)
ceiling-next ceiling [] next = refl
ceiling-next ceiling (it ∷ known) next = ceiling-next (lower_of ceiling (missed_first it)) known next

lower-none : (ceiling : Option ℤ) → lower_of ceiling None ≡ ceiling
lower-none None = refl
lower-none (Some t) = refl

-- one that is not known leaves the ceiling
pub lower-unknown : (ceiling : Option ℤ) (next : Option CandidateOutcome) → is_some next ≡ false → ceiling ≡ lower_of ceiling (missed_first next)
lower-unknown ceiling None is = sym (lower-none ceiling)
lower-unknown ceiling (Some outcome) is = absurd (cc)

-- the ceiling of the outcomes that are known
printed-ceiling : (finals : List CandidateOutcome) (k : ℕ) (known : Option CandidateOutcome) → (known ≡ Some (at finals k)) ⊎ (known ≡ None) → IsCeiling finals (missed_first known)
printed-ceiling finals k None from = tt
printed-ceiling finals k (Some (Print t)) from = (
  k,
  ⊎_elim
      (λ (right : Some (Print t) ≡ Some (at finals k)). let same : Print t ≡ at finals k = cc in omega (arith, ints, ap rank_of same))
      (λ (never : Some (Print t) ≡ None). cc)
      from,
)
printed-ceiling finals k (Some (Unsure s)) from = tt
printed-ceiling finals k (Some Below) from = tt
printed-ceiling finals k (Some Above) from = tt
printed-ceiling finals k (Some NoTime) from = tt

ceiling-from : (finals : List CandidateOutcome) (c : ℕ) (ceiling : Option ℤ) (known : List (Option CandidateOutcome)) → ((j : ℕ) → (known_at known j ≡ Some (at finals (c + j))) ⊎ (known_at known j ≡ None)) → IsCeiling finals ceiling → IsCeiling finals (ceiling_first ceiling known)
ceiling-from finals c ceiling [] from is = is
ceiling-from finals c ceiling (it ∷ known) from is =
    ceiling-from finals (c + 1) (lower_of ceiling (missed_first it)) known
    (λ j. let next : c + 1 + j ≡ c + suc j = omega arith in subst (λ n. (known_at known j ≡ Some (at finals n)) ⊎ (known_at known j ≡ None)) (sym next) (from (suc j)))
    (lower-ceiling finals ceiling (missed_first it) is (printed-ceiling finals (c + 0) it (from 0)))

-- so they are refined no times
pub record IsFinal (verdicts : PaymentSeries → ℕ → ℕ → Verdict) (price : ℕ) (list : List Candidate) (r : ℕ) (search : SearchState) : Type 0 where
  pub finals : List CandidateOutcome
  pub outcomes : AllZip (IsCandidateYield verdicts price) list finals
  pub refined : IsRefined verdicts finals r search

pub started-final : (verdicts : PaymentSeries → ℕ → ℕ → Verdict) (price : ℕ) (list : List Candidate) (search : SearchState) → AreFirstKnown verdicts price → 0 < price → All IsCandidate list → length list ≤ 100 → IsStarted price list search → IsFinal verdicts price list 0 search
started-final verdicts price list search first some all few is =
    let known = search.known in
    let finals = finals-of verdicts price list known in
    let lengths = length-finals verdicts price list known is.known in
    let zero_more : (j : ℕ) → at finals (0 + j) ≡ at finals j = λ j. let same : 0 + j ≡ j = omega arith in ap (at finals) same in
    let of = finals-of_yield verdicts price list known some all is.range in
    let start : (j : ℕ) → IsFound finals known (searches_from price 0 list) 0 j = found verdicts price 0 list known is.known in
    record {
      finals = finals;
      outcomes = finals-are verdicts price list known is.known;
      refined = record {
        lengths = lengths.0 ∙ sym lengths.1;
        of = of;
        ceiling_is = subst (IsCeiling finals) (sym is.ceiling)
            (ceiling-from finals 0 None known
            (λ j. ⊎_elim
            (λ (right : known_at known j ≡ Some (at finals j)). inl (right ∙ ap Some (sym (zero_more j))))
            (λ (left : (known_at known j ≡ None) × IsSearchedFor (searches_from price 0 list) (0 + j)). inr left.0)
            (start j))
            tt);
        missed_is = subst (IsMissedPlace finals) (sym is.missed) (record { some = omega arith; holder = λ most. absurd (omega (arith, most)) });
        each = subst (All (IsRunning verdicts finals 0)) (sym is.searches) (running-from verdicts price finals 0 list known first some all is.known (omega (arith, lengths.1)) zero_more);
        few = let count = few-from price 0 list in omega (arith, count, few, ap (λ (searches : List OpenSearch). length searches) is.searches);
        covered = λ k. ⊎_elim
            (λ (right : known_at known k ≡ Some (at finals k)). inl right)
            (λ (left : (known_at known k ≡ None) × IsSearchedFor (searches_from price 0 list) (0 + k)).
            let same : 0 + k ≡ k = omega arith in
            inr (left.0, inr (subst (λ searches. IsSearchedFor searches k) (sym is.searches) (subst (IsSearchedFor (searches_from price 0 list)) same left.1))))
            (start k);
      };
    }

-- one more round
pub next-final : (verdicts : PaymentSeries → ℕ → ℕ → Verdict) (price : ℕ) (list : List Candidate) (r : ℕ) (search next : SearchState) → r < 19 → IsRound verdicts search next → IsFinal verdicts price list r search → IsFinal verdicts price list (r + 1) next
next-final verdicts price list r search next few is before = record {
  finals = before.finals;
  outcomes = before.outcomes;
  refined = refined-keeps verdicts before.finals r search next few is before.refined;
}

-- and when nothing is left to ask
pub searched-out : (ends : PaymentSeries → ℤ → WorthEnds) (price : ℕ) (list : List Candidate) (r : ℕ) (search : SearchState) → is_over search ≡ true → IsFinal (place_verdict ends) price list r search → AreSearchedOut ends price list (outcomes_of search.known)
searched-out ends price list r search over is =
    let none = over-none search.searches over in
    record {
      outcomes = is.finals;
      each = is.outcomes;
      ranked = λ lowest ranked. ranked-of_all (place_verdict ends) is.finals r search lowest is.refined none ranked;
      range = λ k d inside. subst (IsOf Yield) (get_or_default is.finals k Above d inside) (is.refined.of k);
      found_range = told-of (place_verdict ends) is.finals r search is.refined;
    }
