-- What is known of the price of a candidate at a yield.
use Rattle.std.specs.Prelude.{◌≡◌, ⊤, ℤ, pos, ◌-ℤ◌}
use Rattle.muni_rule.specs.Payments.{PaymentSeries}
use Rattle.muni_rule.specs.SinglePayment.{AtLeast}
use Rattle.muni_rule.specs.Verdicts.{at_least_verdict, dirty_thousandths}
use Rattle.muni_rule.specs.WorthEnds.{WorthEnds, ends_of}
use Rattle.muni_multi.specs.Prices as multi
use Rattle.muni_multi.specs.declared.price.PriceAnswer.{PriceAnswer}
use Rattle.muni_multi.specs.declared.price.PriceAnswer.TheVariants as found
use Rattle.muni_simple.specs.Single as simple
use Rattle.muni_simple.specs.declared.price.SimplePrice.{SimplePrice}
use Rattle.muni_simple.specs.declared.price.SimplePrice.TheVariants as exact
use Rattle.muni_sched.specs.declared.candidate.Candidate.{Candidate}
use Rattle.muni_sched.specs.declared.candidate.Shape.{Shape}
use Rattle.muni_sched.specs.declared.candidate.Shape.TheVariants.{Many, One, AtRedemption, Discount}
use Rattle.muni_sched.specs.declared.outcome.CandidateOutcome.{CandidateOutcome}
use Rattle.muni_sched.specs.declared.outcome.CandidateOutcome.TheVariants.{Print, Unsure, Below}
use Rattle.muni_sched.specs.FigureKind.{Price}
use Rattle.muni_sched.specs.Figures.{IsOf}
use Rattle.muni_sched.specs.ToCome.{ToCome, many, one, to_come_of}

-- a yield is given for all but discounted notes
abbrev pub IsShapeAtYield : Shape → Type 0
IsShapeAtYield (Many series) = ⊤
IsShapeAtYield (One payment) = ⊤
IsShapeAtYield (AtRedemption payment) = ⊤
IsShapeAtYield (Discount days basis) = ⊥

abbrev pub IsAtYield : Candidate → Type 0
IsAtYield candidate = IsShapeAtYield candidate.shape

-- an answer as an outcome: a boundary that is open begins the figure after the one that is reached
abbrev pub price_outcome : PriceAnswer → CandidateOutcome
price_outcome (found.Price t) = Print (pos t)
price_outcome found.BelowZero = Below
price_outcome (found.Undecided boundary) = Unsure (pos boundary -ℤ pos 1)

-- and an exact answer for one payment to come
abbrev pub one_price : SimplePrice → CandidateOutcome
one_price (exact.Price t) = Print (pos t)
one_price exact.BelowZero = Below

-- the verdict on the price of many payments, by the ends that an encloser gives
abbrev pub IsManyOutcome : (ends : PaymentSeries → ℤ → WorthEnds) → ℤ → PaymentSeries
    → PriceAnswer → Type 0
IsManyOutcome ends y series answer =
    multi.IsSeriesPriceOutcome (λ t. at_least_verdict (ends_of series y (ends series y))
    (dirty_thousandths series.accrued t)) answer

-- One payment to come has its exact outcome, and many have that of verdicts.
abbrev pub IsPriceOutcomeFor : (ends : PaymentSeries → ℤ → WorthEnds) → ℤ → ToCome → CandidateOutcome
    → Type 0
IsPriceOutcomeFor ends y (many series) outcome =
    (answer : PriceAnswer) × IsManyOutcome ends y series answer × (outcome ≡ price_outcome answer)
IsPriceOutcomeFor ends y (one least payment) outcome =
    (answer : SimplePrice) × simple.IsPriceAnswer payment.basis (AtLeast payment y) answer
    × (outcome ≡ one_price answer)

abbrev pub IsCandidatePrice : (ends : PaymentSeries → ℤ → WorthEnds) → ℤ → Candidate → CandidateOutcome
    → Type 0
IsCandidatePrice ends y candidate outcome =
    IsPriceOutcomeFor ends y (to_come_of candidate.shape) outcome

-- the price of a candidate as it is answered
abbrev pub IsPriceAt : (ends : PaymentSeries → ℤ → WorthEnds) → ℤ → Candidate → PriceAnswer → Type 0
IsPriceAt ends y candidate answer = IsCandidatePrice ends y candidate (price_outcome answer)

-- a price that is answered is one that a candidate may have
abbrev pub IsPrintable : PriceAnswer → Type 0
IsPrintable answer = IsOf Price (price_outcome answer)
