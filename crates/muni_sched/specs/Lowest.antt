-- The rule of the lowest figure, over the outcomes of the candidates in order of date (MSRB Rule
-- G-15(a)). It is one rule for prices, in thousandths of a dollar, and for yields, in thousandths
-- of a percent. A candidate that is unsure at s reaches the figure s, and it is open whether it
-- reaches the next one. `least` is the least s: there it is open whether the candidate is below all
-- its figures. A figure may be lower, since with one payment to come a yield may be lower than with
-- more.
use Rattle.std.specs.Prelude.{◌≡◌, ℕ, ◌<◌, ◌≤◌, ◌⊎◌, List, slice_index_or, ℤ, ◌<ℤ◌, ◌≤ℤ◌}
use Rattle.muni_rule.specs.Schedule.{IsFirst}
use Rattle.muni_sched.specs.declared.outcome.CandidateOutcome.{CandidateOutcome}
use Rattle.muni_sched.specs.declared.outcome.CandidateOutcome.TheVariants.{Print, Unsure, Below, Above, NoTime}
use Rattle.muni_sched.specs.LowestFigure.{Lowest}
use Rattle.muni_sched.specs.LowestFigure as lowest

-- the outcome of candidate c; past the last one it is Above, which decides nothing
abbrev pub outcome_at : List CandidateOutcome → ℕ → CandidateOutcome
outcome_at outcomes c = slice_index_or outcomes c Above

-- no candidate has such an outcome
abbrev pub NoneHas : List CandidateOutcome → (CandidateOutcome → Type 0) → Type 0
NoneHas outcomes Such = (k : ℕ) → ¬ (Such (outcome_at outcomes k))

-- c is the first candidate that has such an outcome
abbrev pub IsFirstWith : List CandidateOutcome → (CandidateOutcome → Type 0) → ℕ → Type 0
IsFirstWith outcomes Such c = IsFirst (λ k. Such (outcome_at outcomes k)) c

-- no time is left for a yield
abbrev pub IsNoTime : CandidateOutcome → Type 0
IsNoTime outcome = outcome ≡ NoTime

-- the candidate is below all its figures, or it is open whether it is
abbrev pub MayBeBelow : ℤ → CandidateOutcome → Type 0
MayBeBelow least outcome = (outcome ≡ Below) ⊎ (outcome ≡ Unsure least)

-- the candidate prints the figure t
abbrev pub IsPrintedAt : ℤ → CandidateOutcome → Type 0
IsPrintedAt t outcome = outcome ≡ Print t

-- m is the lowest printed figure, and c the first candidate that prints it
pub record IsLowestPrint (outcomes : List CandidateOutcome) (m : ℤ) (c : ℕ) : Type 0 where
  pub none_lower : (k : ℕ) (t : ℤ) → IsPrintedAt t (outcome_at outcomes k) → m ≤ℤ t
  pub first : IsFirstWith outcomes (IsPrintedAt m) c

-- Candidate c is unsure at s, and it matters: none prints a figure, or the lowest printed one is
-- higher than s, or it is s and the first candidate that prints it comes after c.
pub record IsMaterial (outcomes : List CandidateOutcome) (s : ℤ) (c : ℕ) : Type 0 where
  pub unsure : outcome_at outcomes c ≡ Unsure s
  pub matters : (m : ℤ) (h : ℕ) → IsLowestPrint outcomes m h → (s <ℤ m) ⊎ ((s ≡ m) × (c < h))

-- of all that are material, c is unsure at the lowest figure, and the first at it
pub record IsLowestMaterial (outcomes : List CandidateOutcome) (s : ℤ) (c : ℕ) : Type 0 where
  pub material : IsMaterial outcomes s c
  pub none_lower : (r : ℤ) (k : ℕ) → IsMaterial outcomes r k → (s <ℤ r) ⊎ ((s ≡ r) × (c ≤ k))

-- time is left for all candidates, and c is the first that is below all its figures or may be
pub record IsFirstBelow
    (least : ℤ) (outcomes : List CandidateOutcome) (outcome : CandidateOutcome) (c : ℕ) : Type 0 where
  pub timed : NoneHas outcomes IsNoTime
  pub first : IsFirstWith outcomes (MayBeBelow least) c
  pub there : outcome_at outcomes c ≡ outcome

-- time is left for all candidates, and none is below all its figures or may be
pub record AllReachFigures (least : ℤ) (outcomes : List CandidateOutcome) : Type 0 where
  pub timed : NoneHas outcomes IsNoTime
  pub none_below : NoneHas outcomes (MayBeBelow least)

-- so it is, and c is the lowest that is material
pub record IsUndecided (least : ℤ) (outcomes : List CandidateOutcome) (s : ℤ) (c : ℕ) : Type 0 where
  pub reach : AllReachFigures least outcomes
  pub lowest : IsLowestMaterial outcomes s c

-- so it is, none is material, and t is the lowest printed figure, which c is the first to print
pub record IsLowestFigure (least : ℤ) (outcomes : List CandidateOutcome) (t : ℤ) (c : ℕ) : Type 0 where
  pub reach : AllReachFigures least outcomes
  pub none_material : (s : ℤ) (k : ℕ) → ¬ (IsMaterial outcomes s k)
  pub lowest : IsLowestPrint outcomes t c

-- so it is, none is material, and none prints a figure
pub record AllAreAbove (least : ℤ) (outcomes : List CandidateOutcome) : Type 0 where
  pub reach : AllReachFigures least outcomes
  pub none_material : (s : ℤ) (k : ℕ) → ¬ (IsMaterial outcomes s k)
  pub none_printed : (t : ℤ) (k : ℕ) → ¬ (IsPrintedAt t (outcome_at outcomes k))

-- The rule: a candidate without time decides first, then one that is below all its figures or may
-- be, then a material one, and then the lowest printed figure.
abbrev pub IsLowest : ℤ → List CandidateOutcome → Lowest → Type 0
IsLowest least outcomes (lowest.NoTime c) = IsFirstWith outcomes IsNoTime c
IsLowest least outcomes (lowest.Below c) = IsFirstBelow least outcomes Below c
IsLowest least outcomes (lowest.Undecided s c) =
    IsFirstBelow least outcomes (Unsure s) c ⊎ IsUndecided least outcomes s c
IsLowest least outcomes (lowest.Low t c) = IsLowestFigure least outcomes t c
IsLowest least outcomes lowest.Above = AllAreAbove least outcomes
