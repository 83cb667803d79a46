-- A search that is over.
use Rattle.std.specs.Prelude.{◌≡◌, ℕ, ◌+◌, List, All, Option, None, ℤ}
use Rattle.std.specs.List.{AllZip}
use Rattle.muni_rule.specs.Payments.{PaymentSeries}
use Rattle.muni_rule.specs.WorthEnds.{WorthEnds}
use Rattle.muni_yield.specs.Places.{place_verdict}
use Rattle.muni_sched.specs.declared.candidate.Candidate.{Candidate}
use Rattle.muni_sched.specs.FigureKind.{Yield}
use Rattle.muni_sched.specs.LowestFigure.{Lowest}
use Rattle.muni_sched.specs.declared.outcome.CandidateOutcome.{CandidateOutcome}
use Rattle.muni_sched.specs.Figures.{least_unsure, IsOf}
use Rattle.muni_sched.specs.Ranks.{IsRanked}
use Rattle.muni_sched.specs.Rounds.{brackets_from, rounds}
use Rattle.muni_sched.specs.Search.{ceiling_first}
use Rattle.muni_sched.specs.YieldOutcome.{IsCandidateYield, IsKnownFirst}

-- the first of least rank among these outcomes is that among the outcomes of all candidates
pub record AreSearchedOut
    (ends : PaymentSeries → ℤ → WorthEnds) (price : ℕ) (list : List Candidate)
    (found : List CandidateOutcome) : Type 0 where
  pub outcomes : List CandidateOutcome
  pub each : AllZip (IsCandidateYield (place_verdict ends) price) list outcomes
  pub ranked : (lowest : Lowest) → IsRanked (least_unsure Yield) found lowest
      → IsRanked (least_unsure Yield) outcomes lowest
  pub range : All (IsOf Yield) outcomes
  pub found_range : All (IsOf Yield) found

-- a count rises by the rounds of the search, of which there are at most 19
pub record CountsRounds
    (ends : PaymentSeries → ℤ → WorthEnds) (price : ℕ) (list : List Candidate)
    (before now : ℕ) : Type 0 where
  pub known : List (Option CandidateOutcome)
  pub first : AllZip (IsKnownFirst price) list known
  pub counted : now ≡ before + rounds 19 (place_verdict ends) (ceiling_first None known)
      (brackets_from price list)
