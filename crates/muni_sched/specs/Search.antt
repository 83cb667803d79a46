-- One round of the search for the lowest yield, over lists.
use Rattle.std.specs.Prelude.{◌≡◌, ℕ, zero, suc, ◌+◌, ◌<◌, ◌≤◌, List, [], ◌∷◌, Bool, false, not, ◌&&◌, ◌==◌, ◌⊎◌, if◌then◌else◌, nat_le, nat_lt, min, map, take, length, All, slice_set, Option, Some, None, unwrap_or, IfSome, ℤ, pos, ◌+ℤ◌, int_le}
use Rattle.std.specs.Int.{int_min}
use Rattle.std.specs.List.{filter, AllZip}
use denote.Ref.{MutBor}
use denote.Param.Members.{Shared}
use Rattle.muni_rule.specs.Payments.{PaymentSeries}
use Rattle.muni_rule.specs.declared.verdict.Verdict.{Verdict}
use Rattle.muni_yield.specs.Bracket.{YieldBracket, IsBracket, is_settled, halved}
use Rattle.muni_yield.specs.Known.{IsGuided, guided_start}
use Rattle.muni_yield.specs.Places.{yield_at}
use Rattle.muni_yield.specs.Settled.{outcome_of}
use Rattle.muni_sched.specs.declared.candidate.Candidate.{Candidate}
use Rattle.muni_sched.specs.FigureKind.{Yield}
use Rattle.muni_sched.specs.declared.outcome.CandidateOutcome.{CandidateOutcome}
use Rattle.muni_sched.specs.declared.outcome.CandidateOutcome.TheVariants.{Print, Unsure, Below, Above, NoTime}
use Rattle.muni_sched.specs.declared.round.Round.{Round}
use Rattle.muni_sched.specs.declared.search.OpenSearch.{OpenSearch}
use Rattle.muni_sched.specs.declared.search.Search.{Search}
use Rattle.muni_sched.specs.Figures.{IsOf}
use Rattle.muni_sched.specs.ToCome.{ToCome, many, one, to_come_of}
use Rattle.muni_sched.specs.YieldOutcome.{many_yield, IsKnownFirst}

-- a search as every number of questions leaves it, and one that is not settled
abbrev pub IsSearch : OpenSearch → Type 0
IsSearch search = IsBracket search.guided.bracket

abbrev pub IsPending : OpenSearch → Type 0
IsPending search = is_settled search.guided.bracket ≡ false

-- and whose known verdicts are right
abbrev pub IsOpen : (PaymentSeries → ℕ → ℕ → Verdict) → OpenSearch → Type 0
IsOpen verdicts search = IsSearch search × IsPending search × IsGuided verdicts search.guided

-- one halving of a search: whatever it asks, its known verdicts stay right
pub record IsHalved (verdicts : PaymentSeries → ℕ → ℕ → Verdict) (before after : OpenSearch) : Type 0 where
  pub candidate : after.candidate ≡ before.candidate
  pub bracket : after.guided.bracket ≡ halved verdicts before.guided.bracket
  pub guided : IsGuided verdicts after.guided

-- What asks may be called in any round with open searches, and halves each of them, in whatever order.
pub record HalvesEach {F : Type 0} (calls : Shared F (Round × (MutBor (List OpenSearch) × Unit {0})) (Unit {0} × (MutBor (List OpenSearch) × Unit {0}))) (ask : F) (verdicts : PaymentSeries → ℕ → ℕ → Verdict) : Type 0 where
  pub may : (round : Round) (searches : MutBor (List OpenSearch)) → All (IsOpen verdicts) searches.now
      → calls.pre ask (round, (searches, tt))
  pub halves : (round : Round) (before after : MutBor (List OpenSearch)) → All (IsOpen verdicts) before.now
      → calls.post ask (round, (before, tt)) (tt, (after, tt)) → AllZip (IsHalved verdicts) before.now after.now

-- one look at a search: its known verdicts stay right, and nothing else changes
pub record IsLookedAt (verdicts : PaymentSeries → ℕ → ℕ → Verdict) (before after : OpenSearch) : Type 0 where
  pub candidate : after.candidate ≡ before.candidate
  pub bracket : after.guided.bracket ≡ before.guided.bracket
  pub guided : IsGuided verdicts after.guided

-- the outcome of a settled search is known of its candidate
abbrev pub noted : OpenSearch → List (Option CandidateOutcome) → List (Option CandidateOutcome)
noted search known =
    if is_settled search.guided.bracket
    then slice_set known search.candidate (Some (many_yield (outcome_of search.guided.bracket)))
    else known

-- and so for each
abbrev pub recorded : List OpenSearch → List (Option CandidateOutcome) → List (Option CandidateOutcome)
recorded [] known = known
recorded (search ∷ rest) known = recorded rest (noted search known)

-- the figure that a candidate is known not to reach, if there is one; past the range none was asked
abbrev pub missed : OpenSearch → Option ℤ
missed search =
    if nat_le search.guided.bracket.high 105_002
    then Some (yield_at search.guided.bracket.high)
    else None

abbrev pub missed_first : Option CandidateOutcome → Option ℤ
missed_first (Some (Print t)) = Some (t +ℤ pos 1)
missed_first (Some (Unsure s)) = None
missed_first (Some Below) = None
missed_first (Some Above) = None
missed_first (Some NoTime) = None
missed_first None = None

-- the least of those figures is the ceiling
abbrev pub lower_of : Option ℤ → Option ℤ → Option ℤ
lower_of None other = other
lower_of (Some t) None = Some t
lower_of (Some t) (Some other) = Some (int_min t other)

abbrev pub ceiling_after : Option ℤ → List OpenSearch → Option ℤ
ceiling_after ceiling [] = ceiling
ceiling_after ceiling (search ∷ rest) = ceiling_after (lower_of ceiling (missed search)) rest

abbrev pub ceiling_first : Option ℤ → List (Option CandidateOutcome) → Option ℤ
ceiling_first ceiling [] = ceiling
ceiling_first ceiling (known ∷ rest) = ceiling_first (lower_of ceiling (missed_first known)) rest

-- a figure is at the ceiling or above, if there is one
abbrev pub is_at_ceiling : Option ℤ → ℤ → Bool
is_at_ceiling None t = false
is_at_ceiling (Some ceiling) t = int_le ceiling t

-- the lower yield was answered by yes, and is at the ceiling or above
abbrev pub is_passed : Option ℤ → YieldBracket → Bool
is_passed ceiling bracket = nat_le 1 bracket.low && is_at_ceiling ceiling (yield_at bracket.low)

-- the least place that one is known not to reach, of those before and of each search
abbrev pub missed_after : ℕ → List OpenSearch → ℕ
missed_after missed [] = missed
missed_after missed (search ∷ rest) = missed_after (min missed search.guided.window.no) rest

-- The outcome is not known yet, and may be the lowest: the lower yield is not at the ceiling, and a
-- place that one does not reach is not known to be reached.
abbrev pub is_needed : Option ℤ → ℕ → OpenSearch → Bool
is_needed ceiling missed search =
    not (is_settled search.guided.bracket)
    && (not (is_passed ceiling search.guided.bracket) && nat_lt search.guided.window.yes missed)

-- a search before its first question for each candidate of many payments, which are counted from c
abbrev pub searches_for : ℕ → ℕ → ToCome → List OpenSearch → List OpenSearch
searches_for price c (many series) rest =
    record { candidate = c; guided = guided_start series price } ∷ rest
searches_for price c (one least payment) rest = rest

abbrev pub searches_from : ℕ → ℕ → List Candidate → List OpenSearch
searches_from price c [] = []
searches_from price c (candidate ∷ rest) =
    searches_for price c (to_come_of candidate.shape) (searches_from price (c + 1) rest)

-- an outcome that is known is one of a yield
abbrev pub IsKnownYield : Option CandidateOutcome → Type 0
IsKnownYield known = IfSome known (IsOf Yield)

-- what is known of the yields of all candidates
pub record SearchState : Type 0 where
  pub known : List (Option CandidateOutcome)
  pub searches : List OpenSearch
  pub ceiling : Option ℤ
  pub missed : ℕ

-- the searches that are still needed are in the first slots
abbrev pub state : Search → List OpenSearch → SearchState
state search slots = record {
  known = search.known.items;
  searches = take search.left slots;
  ceiling = search.ceiling;
  missed = search.missed;
}

-- all that is known before the first round
pub record IsStarted (price : ℕ) (list : List Candidate) (search : SearchState) : Type 0 where
  pub known : AllZip (IsKnownFirst price) list search.known
  pub range : All IsKnownYield search.known
  pub searches : search.searches ≡ searches_from price 0 list
  pub ceiling : search.ceiling ≡ ceiling_first None search.known
  pub missed : search.missed ≡ 105_003

-- each search is looked at, and those are kept that are still needed
pub record IsLook (verdicts : PaymentSeries → ℕ → ℕ → Verdict) (before after : SearchState) : Type 0 where
  pub looked : List OpenSearch
  pub each : AllZip (IsLookedAt verdicts) before.searches looked
  pub known : after.known ≡ before.known
  pub ceiling : after.ceiling ≡ before.ceiling
  pub missed : after.missed ≡ missed_after before.missed looked
  pub searches : after.searches ≡ filter (is_needed after.ceiling after.missed) looked

-- one or two are not looked at
abbrev pub MayLook : (PaymentSeries → ℕ → ℕ → Verdict) → SearchState → SearchState → Type 0
MayLook verdicts before after = (after ≡ before) ⊎ IsLook verdicts before after

-- what is known before the first round, with a look or without one
pub record IsBegun (verdicts : PaymentSeries → ℕ → ℕ → Verdict) (price : ℕ) (list : List Candidate) (search : SearchState) : Type 0 where
  pub first : SearchState
  pub started : IsStarted price list first
  pub look : MayLook verdicts first search

-- Some searches are kept of all that are looked at. The others are known to reach a place, so none of them is needed
-- if one does not reach it.
pub record IsLookedAtBut (verdicts : PaymentSeries → ℕ → ℕ → Verdict) (place : ℕ) (searches kept : List OpenSearch) : Type 0 where
  pub looked : List OpenSearch
  pub each : AllZip (IsLookedAt verdicts) searches looked
  pub missed : (before : ℕ) → before ≤ 105_003 → missed_after before looked ≡ missed_after before kept
  pub needed : (ceiling : Option ℤ) (missed : ℕ) → missed ≤ place
      → filter (is_needed ceiling missed) looked ≡ filter (is_needed ceiling missed) kept

-- one round: each search is halved, what is known then is recorded, and those are kept that are
-- still needed
pub record IsRound (verdicts : PaymentSeries → ℕ → ℕ → Verdict) (before after : SearchState) : Type 0 where
  pub asked : List OpenSearch
  pub each : AllZip (IsHalved verdicts) before.searches asked
  pub known : after.known ≡ recorded asked before.known
  pub ceiling : after.ceiling ≡ ceiling_after before.ceiling asked
  pub missed : after.missed ≡ missed_after before.missed asked
  pub searches : after.searches ≡ filter (is_needed after.ceiling after.missed) asked

-- nothing is left to ask
abbrev pub is_over : SearchState → Bool
is_over search = length search.searches == 0

-- one round more
pub record IsOneMore (AreRounds : SearchState → Type 0) (verdicts : PaymentSeries → ℕ → ℕ → Verdict) (after : SearchState) : Type 0 where
  pub before : SearchState
  pub rounds : AreRounds before
  pub pending : is_over before ≡ false
  pub round : IsRound verdicts before after

-- so many rounds, one after the other
abbrev pub AreRounds : (PaymentSeries → ℕ → ℕ → Verdict) → ℕ → SearchState → SearchState → Type 0
AreRounds verdicts zero before after = after ≡ before
AreRounds verdicts (suc count) before after = IsOneMore (AreRounds verdicts count before) verdicts after

-- each open search belongs to a candidate
pub record CanRefine (verdicts : PaymentSeries → ℕ → ℕ → Verdict) (search : SearchState) : Type 0 where
  pub each : All (IsOpen verdicts) search.searches
  pub candidates : All (λ (it : OpenSearch). it.candidate < length search.known)
      search.searches
  pub few : length search.searches ≤ 100

-- a candidate whose outcome is not known is above the figure that is the lowest
abbrev pub outcomes_of : List (Option CandidateOutcome) → List CandidateOutcome
outcomes_of known = map (λ outcome. unwrap_or outcome Above) known
