-- What is given for redemption candidates: a yield, at which the lowest price is asked, or a price,
-- at which the lowest yield is.
use Rattle.std.specs.Prelude.{ℕ, ◌*◌, ◌<◌, List, All, ℤ, pos, negsuc}
use Rattle.std.specs.List.{slice_get}
use Rattle.std.specs.Option.{IsSomeAnd}
use Rattle.muni_rule.specs.Accuracy.{thousandths}
use Rattle.muni_rule.specs.Doubt.{IsDoubtful}
use Rattle.muni_rule.specs.Payments.{PaymentSeries}
use Rattle.muni_rule.specs.PrintedYield.{boundary}
use Rattle.muni_rule.specs.Schedule.{ExactOutcome}
use Rattle.muni_rule.specs.WorthEnds.{WorthEnds}
use Rattle.muni_yield.specs.Places.{place_verdict}
use Rattle.muni_sched.specs.declared.candidate.Candidate.{Candidate}
use Rattle.muni_sched.specs.FigureKind.{FigureKind, Price, Yield}
use Rattle.muni_sched.specs.declared.outcome.CandidateOutcome.{CandidateOutcome}
use Rattle.muni_sched.specs.Candidates.{IsCandidate}
use Rattle.muni_sched.specs.Exact.{IsExactPrice, IsExactYield}
use Rattle.muni_sched.specs.PriceOutcome.{IsAtYield, IsCandidatePrice}
use Rattle.muni_sched.specs.Range.{IsGivenFor}
use Rattle.muni_sched.specs.ToCome.{ToCome, many, one, to_come_of}
use Rattle.muni_sched.specs.YieldOutcome.{IsCandidateYield}

pub data GivenFigure : Type 0 where
  at_yield : ℤ → GivenFigure
  at_price : ℕ → GivenFigure

abbrev pub kind_of : GivenFigure → FigureKind
kind_of (at_yield y) = Price
kind_of (at_price price) = Yield

-- each candidate of a list may be priced at a yield
pub record ArePriced (y : ℤ) (list : List Candidate) : Type 0 where
  pub candidates : All IsCandidate list
  pub basis : All IsAtYield list
  pub in_range : All (IsGivenFor y) list

-- and so at a yield, or at a price above nothing
abbrev pub MayBeAsked : GivenFigure → List Candidate → Type 0
MayBeAsked (at_yield y) list = ArePriced y list
MayBeAsked (at_price price) list = (0 < price) × All IsCandidate list

-- what the ends that an encloser gives tell of a candidate
abbrev pub IsOutcome : (ends : PaymentSeries → ℤ → WorthEnds) → GivenFigure → Candidate → CandidateOutcome → Type 0
IsOutcome ends (at_yield y) candidate outcome = IsCandidatePrice ends y candidate outcome
IsOutcome ends (at_price price) candidate outcome =
    IsCandidateYield (place_verdict ends) price candidate outcome

-- what is exactly so of it
abbrev pub IsExact : GivenFigure → Candidate → ExactOutcome → Type 0
IsExact (at_yield y) candidate exact = IsExactPrice y candidate exact
IsExact (at_price price) candidate exact = IsExactYield price candidate exact

-- in doubt at a yield and an amount is only the price of many payments
abbrev pub IsToComeInDoubt : ToCome → ℤ → ℤ → Type 0
IsToComeInDoubt (many series) y amount = IsDoubtful series y amount
IsToComeInDoubt (one least payment) y amount = ⊥

-- and so it is whether they reach the figure t: no price is below 0.000
abbrev pub IsFigureInDoubt : GivenFigure → ToCome → ℤ → Type 0
IsFigureInDoubt (at_yield y) to_come (pos t) = IsToComeInDoubt to_come y (thousandths t)
IsFigureInDoubt (at_yield y) to_come (negsuc t) = ⊥
IsFigureInDoubt (at_price price) to_come t =
    IsToComeInDoubt to_come (boundary t) (pos (360_000 * price))

-- it is in doubt whether candidate c reaches the figure t
abbrev pub IsInDoubt : GivenFigure → List Candidate → ℕ → ℤ → Type 0
IsInDoubt given list c t =
    IsSomeAnd (slice_get list c) (λ candidate. IsFigureInDoubt given (to_come_of candidate.shape) t)
