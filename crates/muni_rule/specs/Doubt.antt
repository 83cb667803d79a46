-- Where a price of many periods may stay undecided, which is this desk's own choice.
-- Amounts are whole numbers of 1/(360 * 10^9) dollars per 100 of par.
use Rattle.std.specs.Prelude.{ℤ, pos, ◌+ℤ◌, ◌-ℤ◌}
use Rattle.muni_rule.specs.Payments.{PaymentSeries}
use Rattle.muni_rule.specs.ManyPeriods.{PeriodicPayments, to_come, AtLeast}
use Rattle.muni_rule.specs.ExactCases.{IsExactCase}

-- the exact price is within 10^-9 dollars of a boundary
pub record IsNear (bond : PeriodicPayments) (y boundary : ℤ) : Type 0 where
  pub not_far_below : AtLeast bond y (boundary -ℤ pos 360)
  pub not_far_above : ¬ (AtLeast bond y (boundary +ℤ pos 360))

-- and none of the exact cases applies
pub record IsDoubtful (series : PaymentSeries) (y boundary : ℤ) : Type 0 where
  pub near : IsNear (to_come series) y boundary
  pub not_exact : ¬ (IsExactCase series y)
