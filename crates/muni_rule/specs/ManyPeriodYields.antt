-- Laws of the printed yield with more than six months left.
-- Yields are in 10^-6, printed ones in 10^-5.
use Rattle.std.specs.Prelude.{◌≡◌, ◌≤◌, ℤ, ◌≤ℤ◌, ◌↔◌}
use Rattle.muni_rule.specs.Accuracy.{rounded_yield}
use Rattle.muni_rule.specs.ManyPeriods.{to_come, AtLeast, More}
use Rattle.muni_rule.specs.Outcomes.{HasOneOutcome}
use Rattle.muni_rule.specs.Payments.{PaymentSeries, IsSeries}
use Rattle.muni_rule.specs.PrintedYield.{Falls, IsPrintedYield, TruncatesYieldTo}

-- If two payments or more are to come, the price falls as the yield rises.
abbrev pub ManyPeriodsPriceFalls : Type 0
ManyPeriodsPriceFalls =
    (series : PaymentSeries) (amount : ℤ) → IsSeries series → 2 ≤ series.n
    → Falls (λ y. AtLeast (to_come series) y amount) (λ y. More (to_come series) y amount)

-- So at most one yield is printed.
abbrev pub ManyPeriodsPrintOneYield : Type 0
ManyPeriodsPrintOneYield =
    (series : PaymentSeries) (amount s t : ℤ) → IsSeries series → 2 ≤ series.n
    → IsPrintedYield (λ y. AtLeast (to_come series) y amount)
    (λ y. More (to_come series) y amount) s
    → IsPrintedYield (λ y. AtLeast (to_come series) y amount)
    (λ y. More (to_come series) y amount) t
    → s ≡ t

-- Printing is truncating the exact yield to four decimals of the percentage, and rounding that.
abbrev pub ManyPeriodsPrintRounded : Type 0
ManyPeriodsPrintRounded =
    (series : PaymentSeries) (amount y t : ℤ) → IsSeries series → 2 ≤ series.n
    → TruncatesYieldTo (λ z. AtLeast (to_come series) z amount)
    (λ z. More (to_come series) z amount) y
    → IsPrintedYield (λ z. AtLeast (to_come series) z amount)
    (λ z. More (to_come series) z amount) t
    ↔ (t ≡ rounded_yield y)

-- And for every range one yield of it is printed, or the yield is below it, or above it.
abbrev pub ManyPeriodsHaveOneOutcome : Type 0
ManyPeriodsHaveOneOutcome =
    (series : PaymentSeries) (amount least greatest : ℤ)
    → IsSeries series → 2 ≤ series.n → least ≤ℤ greatest
    → HasOneOutcome least greatest (λ y. AtLeast (to_come series) y amount)
    (λ y. More (to_come series) y amount)
