-- The last step of an enclosure: from the day of the first payment back to the settlement.
-- Sums and worths are in 1/4096 of an amount, factors in units of 2^-60.
use Rattle.std.specs.Prelude.{ℕ, ◌+◌, ◌-◌, ◌*◌, ◌/◌, ◌^◌, ◌<◌, ◌≤◌, length, ℤ}
use Rattle.muni_rule.specs.Payments.{PaymentSeries, IsSeries}
use Rattle.muni_rule.specs.ManyPeriods.{PeriodicPayments, to_come, discount_divisor, whole_sum}
use Rattle.muni_rule.specs.Ranges.{IsManyPeriodsBoundary}
use Rattle.muni_rule.specs.WorthEnds.{HoldsWorth, IsNarrow, enclosure_ends}
use Rattle.muni_span.specs.Powers.{power_low, power_high}
use Rattle.muni_span.specs.Roots.{root_low, root_high}

-- the ends of the discount factor of half a year
abbrev pub discount_low : ℤ → ℕ
discount_low y = 2_000_000 * 2 ^ 60 / discount_divisor y

abbrev pub discount_high : ℤ → ℕ
discount_high y = (2_000_000 * 2 ^ 60 + (discount_divisor y - 1)) / discount_divisor y

-- the ends of the factor of the 180 - A days up to the first payment: a power of the root of that one
abbrev pub part_low : ℤ → ℕ → ℕ
part_low y a = power_low (root_low (discount_low y)) (180 - a)

abbrev pub part_high : ℤ → ℕ → ℕ
part_high y a = power_high (root_high (discount_high y)) (180 - a)

-- a sum on the day of the first payment, discounted by those days and rounded outward
abbrev pub settled_low : ℕ → ℤ → ℕ → ℕ
settled_low sum y a = sum * part_low y a / 2 ^ 60

abbrev pub settled_high : ℕ → ℤ → ℕ → ℕ
settled_high sum y a = (sum * part_high y a + (2 ^ 60 - 1)) / 2 ^ 60

-- what the payments are worth on the day of the first lies between two ends
pub record HoldsSum (bond : PeriodicPayments) (y : ℤ) (lo hi : ℕ) : Type 0 where
  pub below : lo * discount_divisor y ^ (length bond.payments - 1) ≤ 4096 * whole_sum bond y
  pub above : 4096 * whole_sum bond y ≤ hi * discount_divisor y ^ (length bond.payments - 1)

-- the worth lies between two ends that are less than 10^-9 dollars apart
pub record IsSettled (series : PaymentSeries) (y : ℤ) (lo hi : ℕ) : Type 0 where
  pub holds : HoldsWorth (to_come series) y (enclosure_ends lo hi)
  pub narrow : IsNarrow (enclosure_ends lo hi)

-- So do the ends of every sum whose upper end is below 2^64 and whose width is at most 2^19, after
-- the last step.
abbrev pub LastStepEncloses : Type 0
LastStepEncloses =
    (series : PaymentSeries) (y : ℤ) (lo hi : ℕ)
    → IsSeries series → IsManyPeriodsBoundary y
    → HoldsSum (to_come series) y lo hi → lo ≤ hi → hi < 2 ^ 64 → hi ≤ lo + 2 ^ 19
    → IsSettled series y (settled_low lo y series.a) (settled_high hi y series.a)
