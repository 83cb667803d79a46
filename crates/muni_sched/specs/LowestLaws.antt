-- Laws of the rule: it gives one answer, that one is right, and it is undecided only in doubt.
use Rattle.std.specs.Prelude.{◌≡◌, ℕ, List, ℤ}
use Rattle.muni_rule.specs.Schedule.{ExactOutcome}
use Rattle.muni_sched.specs.declared.candidate.Candidate.{Candidate}
use Rattle.muni_sched.specs.declared.outcome.CandidateOutcome.{CandidateOutcome}
use Rattle.muni_sched.specs.declared.outcome.CandidateOutcome.TheVariants.{Unsure}
use Rattle.muni_sched.specs.LowestFigure.{Lowest}
use Rattle.muni_sched.specs.LowestFigure.{Undecided}
use Rattle.muni_sched.specs.GivenFigure.{GivenFigure, kind_of, IsInDoubt}
use Rattle.muni_sched.specs.Figures.{least_unsure}
use Rattle.muni_sched.specs.Lowest.{outcome_at, IsLowest}
use Rattle.muni_sched.specs.Sound.{AreSound, IsRight}

-- the rule allows at most one answer
abbrev pub AllowsOneLowest : Type 0
AllowsOneLowest =
    (least : ℤ) (outcomes : List CandidateOutcome) (one other : Lowest)
    → IsLowest least outcomes one → IsLowest least outcomes other → one ≡ other

-- the answer over sound outcomes is right
abbrev pub SoundIsRight : Type 0
SoundIsRight =
    (given : GivenFigure) (list : List Candidate) (exact : ℕ → ExactOutcome) (outcomes : List CandidateOutcome)
    (answer : Lowest)
    → AreSound (least_unsure (kind_of given)) (IsInDoubt given list) outcomes exact
    → IsLowest (least_unsure (kind_of given)) outcomes answer
    → IsRight (IsInDoubt given list) exact answer

-- of the answers that are not undecided, at most one is right
abbrev pub OneLowestIsRight : Type 0
OneLowestIsRight =
    (exact : ℕ → ExactOutcome) (one other : Lowest)
    → IsRight (λ c t. ⊥) exact one → IsRight (λ c t. ⊥) exact other → one ≡ other

-- an answer that is undecided names a candidate that is unsure, at its figure
abbrev pub UndecidedIsUnsure : Type 0
UndecidedIsUnsure =
    (least s : ℤ) (c : ℕ) (outcomes : List CandidateOutcome)
    → IsLowest least outcomes (Undecided s c) → outcome_at outcomes c ≡ Unsure s

-- if no candidate is in doubt at any figure, the answer over sound outcomes is not undecided
abbrev pub NoDoubtIsDecided : Type 0
NoDoubtIsDecided =
    (given : GivenFigure) (list : List Candidate) (exact : ℕ → ExactOutcome) (outcomes : List CandidateOutcome)
    (s : ℤ) (c : ℕ)
    → ((k : ℕ) (t : ℤ) → ¬ (IsInDoubt given list k t))
    → AreSound (least_unsure (kind_of given)) (IsInDoubt given list) outcomes exact
    → ¬ (IsLowest (least_unsure (kind_of given)) outcomes (Undecided s c))
