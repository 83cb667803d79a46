-- Two enclosures of one worth.
use Rattle.std.specs.Prelude.{◌≡◌, ℕ, ◌+◌, ◌*◌, ℤ}
use Rattle.muni_rule.specs.ManyPeriods.{to_come}
use Rattle.muni_rule.specs.Payments.{PaymentSeries, IsSeries}
use Rattle.muni_rule.specs.Ranges.{IsManyPeriodsBoundary}
use Rattle.muni_rule.specs.Verdicts.{at_least_verdict, more_verdict}
use Rattle.muni_rule.specs.WorthEnds.{WorthEnds, HoldsWorth, ends_of}
use Rattle.muni_rule.specs.declared.verdict.Verdict.TheVariants.{Yes, No}

-- two ends of the worth of the same payments at the same yield
pub record HoldOneWorth (series : PaymentSeries) (y : ℤ) (one other : WorthEnds) : Type 0 where
  pub is : IsSeries series
  pub within : IsManyPeriodsBoundary y
  pub one_holds : HoldsWorth (to_come series) y one
  pub other_holds : HoldsWorth (to_come series) y other

-- if one says Yes of a price the other does not say No
pub record NeverContradict (series : PaymentSeries) (y : ℤ) (one other : WorthEnds) (price : ℕ) : Type 0 where
  pub at_least : at_least_verdict (ends_of series y one) (360_000 * price + series.accrued) ≡ Yes
      → ¬ (at_least_verdict (ends_of series y other) (360_000 * price + series.accrued) ≡ No)
  pub more : more_verdict (ends_of series y one) (360_000 * price + series.accrued) ≡ Yes
      → ¬ (more_verdict (ends_of series y other) (360_000 * price + series.accrued) ≡ No)

abbrev pub EnclosuresAgree : Type 0
EnclosuresAgree =
    (series : PaymentSeries) (y : ℤ) (one other : WorthEnds) (price : ℕ)
    → HoldOneWorth series y one other → NeverContradict series y one other price
