-- The exact outcome of a candidate for a price or for a yield.
use Rattle.std.specs.Prelude.{◌≡◌, ℕ, ◌*◌, ◌⊎◌, ℤ, pos, negsuc, ◌<ℤ◌}
use Rattle.muni_rule.specs.Accuracy.{price_amount}
use Rattle.muni_rule.specs.declared.basis.Basis.{Basis}
use Rattle.muni_rule.specs.declared.basis.Basis.TheVariants.{Thirty360}
use Rattle.muni_rule.specs.ManyPeriods as periods
use Rattle.muni_rule.specs.ManyPeriods.{to_come}
use Rattle.muni_rule.specs.Outcomes.{IsBelow, IsAbove, IsPrint}
use Rattle.muni_rule.specs.Printed.{IsPrintedPriceBy, IsBelowZero}
use Rattle.muni_rule.specs.Schedule.{ExactOutcome, prints, is_below, is_above, no_time}
use Rattle.muni_rule.specs.SinglePayment.{SinglePayment, AtLeast, More}
use Rattle.muni_simple.specs.Yields.{greatest_printed}
use Rattle.muni_yield.specs.Outcome as search
use Rattle.muni_sched.specs.declared.candidate.Candidate.{Candidate}
use Rattle.muni_sched.specs.ToCome.{ToCome, many, one, to_come_of}

-- the yield is printed, or leaves the range of those that may be
abbrev pub IsExactIn : (least greatest : ℤ) (AtLeast More : ℤ → Type 0) → ExactOutcome → Type 0
IsExactIn least greatest AtLeast More (prints t) = IsPrint least greatest AtLeast More t
IsExactIn least greatest AtLeast More is_below = IsBelow least AtLeast More
IsExactIn least greatest AtLeast More is_above = IsAbove greatest AtLeast More
IsExactIn least greatest AtLeast More no_time = ⊥

-- the yield of one payment to come: with no day left there is none
abbrev pub IsExactSingle : ℤ → SinglePayment → ℤ → ExactOutcome → Type 0
IsExactSingle least payment amount exact =
    ((payment.left ≡ pos 0) × (exact ≡ no_time))
    ⊎ ((pos 0 <ℤ payment.left)
    × IsExactIn least greatest_printed (λ y. AtLeast payment y amount)
    (λ y. More payment y amount) exact)

-- the yield of what is to come, at a price
abbrev pub IsExactYieldOf : ℕ → ToCome → ExactOutcome → Type 0
IsExactYieldOf price (many series) exact =
    IsExactIn search.least_printed search.greatest_printed
    (λ y. periods.AtLeast (to_come series) y (pos (360_000 * price)))
    (λ y. periods.More (to_come series) y (pos (360_000 * price))) exact
IsExactYieldOf price (one least payment) exact =
    IsExactSingle least payment (price_amount payment.basis price) exact

abbrev pub IsExactYield : ℕ → Candidate → ExactOutcome → Type 0
IsExactYield price candidate exact = IsExactYieldOf price (to_come_of candidate.shape) exact

-- the price, by the amounts that it reaches: it is printed, or below zero
abbrev pub IsExactPriceBy : Basis → (ℤ → Type 0) → ExactOutcome → Type 0
IsExactPriceBy basis AtLeast (prints (pos t)) = IsPrintedPriceBy basis AtLeast t
IsExactPriceBy basis AtLeast (prints (negsuc t)) = ⊥
IsExactPriceBy basis AtLeast is_below = IsBelowZero AtLeast
IsExactPriceBy basis AtLeast is_above = ⊥
IsExactPriceBy basis AtLeast no_time = ⊥

-- the price of what is to come, at a yield
abbrev pub IsExactPriceOf : ℤ → ToCome → ExactOutcome → Type 0
IsExactPriceOf y (many series) exact =
    IsExactPriceBy Thirty360 (periods.AtLeast (to_come series) y) exact
IsExactPriceOf y (one least payment) exact =
    IsExactPriceBy payment.basis (AtLeast payment y) exact

abbrev pub IsExactPrice : ℤ → Candidate → ExactOutcome → Type 0
IsExactPrice y candidate exact = IsExactPriceOf y (to_come_of candidate.shape) exact
