-- Which price is answered at a yield.
use Rattle.std.specs.Prelude.{◌≡◌, ℕ, ◌+◌, ⊤, nat_le, nat_lt, if◌then◌else◌, ℤ}
use Rattle.muni_rule.specs.Accuracy.{thousandths}
use Rattle.muni_rule.specs.Doubt.{IsDoubtful}
use Rattle.muni_rule.specs.ManyPeriods.{to_come, AtLeast}
use Rattle.muni_rule.specs.Payments.{PaymentSeries}
use Rattle.muni_rule.specs.Printed.{IsPrintedPrice, IsBelowZero}
use Rattle.muni_rule.specs.Ranges.{IsManyPeriodsBoundary}
use Rattle.muni_rule.specs.Verdicts.{IsUndecidedAt}
use Rattle.muni_rule.specs.declared.verdict.Verdict.{Verdict}
use Rattle.muni_rule.specs.declared.verdict.Verdict.TheVariants.{Yes, No, Unsure}
use Rattle.muni_multi.specs.declared.price.PriceAnswer.{PriceAnswer}
use Rattle.muni_multi.specs.declared.price.PriceAnswer.TheVariants.{Price, BelowZero, Undecided}

-- a price is the printed one, and below zero none is
abbrev pub IsSeriesPrice : (Reaches : ℤ → Type 0) → PriceAnswer → Type 0
IsSeriesPrice Reaches (Price t) = IsPrintedPrice Reaches t
IsSeriesPrice Reaches BelowZero = IsBelowZero Reaches
IsSeriesPrice Reaches (Undecided _) = ⊤

-- undecided is only a boundary in doubt: the exact price is within 10^-9 dollars of it, in no exact
-- case
abbrev pub IsDoubtfulAnswer : PaymentSeries → ℤ → PriceAnswer → Type 0
IsDoubtfulAnswer series y (Undecided boundary) = IsDoubtful series y (thousandths boundary)
IsDoubtfulAnswer series y (Price _) = ⊤
IsDoubtfulAnswer series y BelowZero = ⊤

-- what the verdicts on whole thousandths leave to answer: the first that they leave open is named
abbrev pub IsSeriesPriceOutcome : (ℕ → Verdict) → PriceAnswer → Type 0
IsSeriesPriceOutcome verdict (Price t) = (verdict t ≡ Yes) × (verdict (t + 1) ≡ No)
IsSeriesPriceOutcome verdict BelowZero = verdict 0 ≡ No
IsSeriesPriceOutcome verdict (Undecided boundary) = IsUndecidedAt verdict boundary

-- the figure in an answer
abbrev pub figure : PriceAnswer → ℕ
figure (Price t) = t
figure BelowZero = 0
figure (Undecided boundary) = boundary

-- the verdict on a worth between two whole amounts
abbrev pub whole_verdict : ℕ → ℕ → ℕ → Verdict
whole_verdict low high x = if nat_le x low then Yes else (if nat_lt high x then No else Unsure)

-- an answer that is not open
abbrev pub IsDecidedPrice : PriceAnswer → Type 0
IsDecidedPrice (Price t) = ⊤
IsDecidedPrice BelowZero = ⊤
IsDecidedPrice (Undecided boundary) = ⊥

-- two answers that are decided and right at a yield are the same
abbrev pub OnePriceIsRight : Type 0
OnePriceIsRight =
    (series : PaymentSeries) (y : ℤ) (one other : PriceAnswer)
    → IsManyPeriodsBoundary y → IsDecidedPrice one → IsDecidedPrice other
    → IsSeriesPrice (AtLeast (to_come series) y) one
    → IsSeriesPrice (AtLeast (to_come series) y) other
    → one ≡ other
