-- What is answered of the lowest figure over redemption candidates.
use Rattle.std.specs.Prelude.{◌≡◌, ℕ, ◌<◌, ◌≤◌, ⊤, List, length, slice_index_or, Option, Some, option_map, ℤ, pos, ◌+ℤ◌}
use Rattle.std.specs.List.{AllZip, slice_get}
use Rattle.muni_rule.specs.Payments.{PaymentSeries}
use Rattle.muni_rule.specs.Schedule.{ExactOutcome, is_above}
use Rattle.muni_rule.specs.WorthEnds.{WorthEnds}
use Rattle.muni_days.specs.declared.day.Day.{Day}
use Rattle.muni_terms.specs.declared.disclosure.Boundary.{Boundary}
use Rattle.muni_sched.specs.declared.answer.Figure.TheVariants as figure
use Rattle.muni_sched.specs.declared.answer.LowAnswer.{LowAnswer}
use Rattle.muni_sched.specs.declared.answer.LowAnswer.TheVariants.{Low, Undecided, Below, Above, NoTime}
use Rattle.muni_sched.specs.declared.candidate.Candidate.{Candidate}
use Rattle.muni_sched.specs.FigureKind.{FigureKind, Price, Yield}
use Rattle.muni_sched.specs.LowestFigure.{Lowest}
use Rattle.muni_sched.specs.LowestFigure as lowest
use Rattle.muni_sched.specs.declared.outcome.CandidateOutcome.{CandidateOutcome}
use Rattle.muni_sched.specs.GivenFigure.{GivenFigure, kind_of, IsOutcome, IsExact, IsInDoubt}
use Rattle.muni_sched.specs.Figures.{least_unsure, figure_of, boundary_of}
use Rattle.muni_sched.specs.Lowest.{IsLowest}
use Rattle.muni_sched.specs.Sound.{IsRight}

-- the date of candidate c, if there is such a one
abbrev pub date_of : List Candidate → ℕ → Option Day
date_of list c = option_map (λ (candidate : Candidate). candidate.date) (slice_get list c)

-- the lowest as it is answered: candidates that have no figure are named by their dates
abbrev pub dated : FigureKind → List Candidate → Lowest → Option LowAnswer
dated kind list (lowest.Low t c) = Some (Low (figure_of kind t) c)
dated kind list (lowest.Undecided s c) =
    option_map (λ date. Undecided date (boundary_of kind (s +ℤ pos 1))) (date_of list c)
dated kind list (lowest.Below c) = option_map (λ date. Below date) (date_of list c)
dated kind list lowest.Above = Some Above
dated kind list (lowest.NoTime c) = option_map (λ date. NoTime date) (date_of list c)

-- the rule's answer over what the ends tell of each candidate
pub record IsLowestByRule
    (ends : PaymentSeries → ℤ → WorthEnds) (given : GivenFigure) (list : List Candidate)
    (answer : LowAnswer) : Type 0 where
  pub lowest : Lowest
  pub outcomes : List CandidateOutcome
  pub each : AllZip (IsOutcome ends given) list outcomes
  pub rule : IsLowest (least_unsure (kind_of given)) outcomes lowest
  pub answered : Some answer ≡ dated (kind_of given) list lowest

-- the exact outcome of candidate c; past the last one it is above all figures
abbrev pub exact_at : List ExactOutcome → ℕ → ExactOutcome
exact_at exact c = slice_index_or exact c is_above

-- an answer that is right for these exact outcomes
pub record IsRightFor
    (given : GivenFigure) (exact : List ExactOutcome) (list : List Candidate) (answer : LowAnswer)
    : Type 0 where
  pub lowest : Lowest
  pub right : IsRight (IsInDoubt given list) (exact_at exact) lowest
  pub answered : Some answer ≡ dated (kind_of given) list lowest

-- it is right for all exact outcomes of the candidates
abbrev pub IsRightLowest : GivenFigure → List Candidate → LowAnswer → Type 0
IsRightLowest given list answer =
    (exact : List ExactOutcome) → AllZip (IsExact given) list exact
    → IsRightFor given exact list answer

-- a date and a boundary are those of a candidate, and it is in doubt whether that reaches the
-- figure which begins at the boundary
pub record AreInDoubt
    (given : GivenFigure) (list : List Candidate) (date : Day) (boundary : Boundary) : Type 0 where
  pub candidate : ℕ
  pub figure : ℤ
  pub there : date_of list candidate ≡ Some date
  pub begins : boundary ≡ boundary_of (kind_of given) figure
  pub doubtful : IsInDoubt given list candidate figure

-- an undecided answer names a candidate that is in doubt
abbrev pub NamesDoubt : GivenFigure → List Candidate → LowAnswer → Type 0
NamesDoubt given list (Undecided date boundary) = AreInDoubt given list date boundary
NamesDoubt given list (Low found c) = ⊤
NamesDoubt given list (Below date) = ⊤
NamesDoubt given list Above = ⊤
NamesDoubt given list (NoTime date) = ⊤

-- an answer that is not undecided
abbrev pub IsDecided : LowAnswer → Type 0
IsDecided (Undecided date boundary) = ⊥
IsDecided (Low found c) = ⊤
IsDecided (Below date) = ⊤
IsDecided Above = ⊤
IsDecided (NoTime date) = ⊤

-- if no candidate is in doubt at any figure, the answer is not undecided
abbrev pub IsDecidedWithoutDoubt : GivenFigure → List Candidate → LowAnswer → Type 0
IsDecidedWithoutDoubt given list answer =
    ((c : ℕ) (t : ℤ) → ¬ (IsInDoubt given list c t)) → IsDecided answer

-- A lowest price is 100,000 dollars at most, and names one of n candidates. A price is neither
-- above all figures nor without time.
abbrev pub NamesPrice : ℕ → LowAnswer → Type 0
NamesPrice n (Low (figure.Price t) c) = (t ≤ 100_000_000) × (c < n)
NamesPrice n (Low (figure.Yield t) c) = ⊥
NamesPrice n (Undecided date boundary) = ⊤
NamesPrice n (Below date) = ⊤
NamesPrice n Above = ⊥
NamesPrice n (NoTime date) = ⊥

-- a lowest yield names one of n candidates
abbrev pub NamesYield : ℕ → LowAnswer → Type 0
NamesYield n (Low (figure.Price t) c) = ⊥
NamesYield n (Low (figure.Yield t) c) = c < n
NamesYield n (Undecided date boundary) = ⊤
NamesYield n (Below date) = ⊤
NamesYield n Above = ⊤
NamesYield n (NoTime date) = ⊤

abbrev pub NamesFigure : FigureKind → ℕ → LowAnswer → Type 0
NamesFigure Price n answer = NamesPrice n answer
NamesFigure Yield n answer = NamesYield n answer

-- The answer to what is asked of candidates: it is the rule's over what the ends tell of them,
-- right by their exact outcomes, undecided only in doubt, and decided if none is in doubt.
pub record IsLowestAnswer
    (ends : PaymentSeries → ℤ → WorthEnds) (given : GivenFigure) (list : List Candidate)
    (answer : LowAnswer) : Type 0 where
  pub rule : IsLowestByRule ends given list answer
  pub right : IsRightLowest given list answer
  pub undecided : NamesDoubt given list answer
  pub decided : IsDecidedWithoutDoubt given list answer
  pub figure : NamesFigure (kind_of given) (length list) answer
