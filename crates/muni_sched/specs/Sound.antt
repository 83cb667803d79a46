-- What outcomes and their lowest have to say of the exact outcomes.
-- Figures are in thousandths of a dollar or of a percent.
use Rattle.std.specs.Prelude.{◌≡◌, ◌≢◌, ℕ, List, ℤ, pos, ◌+ℤ◌}
use Rattle.muni_rule.specs.Schedule.{ExactOutcome, prints, is_below, is_above, no_time, IsFrom, IsRightLow, IsRightBelow, IsRightAbove, IsRightNoTime, IsRightUndecided}
use Rattle.muni_sched.specs.declared.outcome.CandidateOutcome.{CandidateOutcome}
use Rattle.muni_sched.specs.declared.outcome.CandidateOutcome.TheVariants.{Print, Unsure, Below, Above, NoTime}
use Rattle.muni_sched.specs.LowestFigure.{Lowest}
use Rattle.muni_sched.specs.LowestFigure as lowest
use Rattle.muni_sched.specs.Lowest.{outcome_at}

-- A candidate is unsure at s if it is in doubt whether it reaches the next figure. It does reach
-- s, but for the least s.
pub record IsSoundUnsure
    (least : ℤ) (IsDoubtful : ℤ → Type 0) (s : ℤ) (exact : ExactOutcome) : Type 0 where
  pub doubtful : IsDoubtful (s +ℤ pos 1)
  pub timed : ¬ (exact ≡ no_time)
  pub reached : s ≢ least → IsFrom s exact

-- an outcome says what is exactly so, or is unsure with cause
abbrev pub IsSound : (least : ℤ) (IsDoubtful : ℤ → Type 0) → CandidateOutcome → ExactOutcome → Type 0
IsSound least IsDoubtful (Print t) exact = exact ≡ prints t
IsSound least IsDoubtful (Unsure s) exact = IsSoundUnsure least IsDoubtful s exact
IsSound least IsDoubtful Below exact = exact ≡ is_below
IsSound least IsDoubtful Above exact = exact ≡ is_above
IsSound least IsDoubtful NoTime exact = exact ≡ no_time

-- and each candidate's does
abbrev pub AreSound : (least : ℤ) (IsDoubtful : ℕ → ℤ → Type 0) → List CandidateOutcome
    → (ℕ → ExactOutcome) → Type 0
AreSound least IsDoubtful outcomes exact =
    (k : ℕ) → IsSound least (IsDoubtful k) (outcome_at outcomes k) (exact k)

-- the lowest is a right answer for the exact outcomes
abbrev pub IsRight : (IsDoubtful : ℕ → ℤ → Type 0) → (ℕ → ExactOutcome) → Lowest → Type 0
IsRight IsDoubtful exact (lowest.Low t c) = IsRightLow exact t c
IsRight IsDoubtful exact (lowest.Undecided s c) = IsRightUndecided IsDoubtful (s +ℤ pos 1) c
IsRight IsDoubtful exact (lowest.Below c) = IsRightBelow exact c
IsRight IsDoubtful exact lowest.Above = IsRightAbove exact
IsRight IsDoubtful exact (lowest.NoTime c) = IsRightNoTime exact c
