-- The rule as one order of outcomes: the first candidate of the least rank decides.
use Rattle.std.specs.Prelude.{◌≡◌, ℕ, if◌then◌else◌, ◌<◌, List, ℤ, pos, negsuc, ◌<ℤ◌, ◌≤ℤ◌}
use Rattle.std.specs.Ordering.{int_eq}
use Rattle.muni_sched.specs.declared.outcome.CandidateOutcome.{CandidateOutcome}
use Rattle.muni_sched.specs.declared.outcome.CandidateOutcome.TheVariants.{Print, Unsure, Below, Above, NoTime}
use Rattle.muni_sched.specs.LowestFigure.{Lowest}
use Rattle.muni_sched.specs.LowestFigure as lowest
use Rattle.muni_sched.specs.Lowest.{outcome_at}

-- The order in which outcomes decide: a figure is its own rank, and the others come before all
-- figures or after them. An unsure outcome goes with those below if it is at `least`, and with
-- its figure elsewhere.
abbrev pub rank : ℤ → CandidateOutcome → ℤ
rank least NoTime = negsuc 2_147_483_647
rank least Below = negsuc 2_147_483_646
rank least (Unsure s) = if int_eq s least then negsuc 2_147_483_646 else s
rank least (Print t) = t
rank least Above = pos 2_147_483_647

-- c is the first candidate of the least rank
pub record IsFirstOfLeastRank (least : ℤ) (outcomes : List CandidateOutcome) (c : ℕ) : Type 0 where
  pub none_lower : (k : ℕ)
      → rank least (outcome_at outcomes c) ≤ℤ rank least (outcome_at outcomes k)
  pub higher_before : (k : ℕ) → k < c
      → rank least (outcome_at outcomes c) <ℤ rank least (outcome_at outcomes k)

-- the answer where candidate c has this outcome and decides
abbrev pub decided_by : CandidateOutcome → ℕ → Lowest
decided_by NoTime c = lowest.NoTime c
decided_by Below c = lowest.Below c
decided_by (Unsure s) c = lowest.Undecided s c
decided_by (Print t) c = lowest.Low t c
decided_by Above c = lowest.Above

-- and where it is the one of these outcomes at c
abbrev pub decided_at : List CandidateOutcome → ℕ → Lowest
decided_at outcomes c = decided_by (outcome_at outcomes c) c

-- the answer is that of the first candidate of the least rank
pub record IsRanked (least : ℤ) (outcomes : List CandidateOutcome) (answer : Lowest) : Type 0 where
  pub candidate : ℕ
  pub first : IsFirstOfLeastRank least outcomes candidate
  pub decides : answer ≡ decided_by (outcome_at outcomes candidate) candidate
