-- The ends of a sum that goes from the last payment to the first.
-- Sums are in 1/4096 of an amount, factors in units of 2^-60.
use Rattle.std.specs.Prelude.{◌≡◌, ℕ, suc, zero, ◌+◌, ◌-◌, ◌*◌, ◌/◌, ◌^◌, ◌<◌, ◌≤◌, ℤ}
use Rattle.muni_rule.specs.Payments.{PaymentSeries, IsSeries, payment_at}
use Rattle.muni_rule.specs.ManyPeriods.{to_come}
use Rattle.muni_rule.specs.Ranges.{IsManyPeriodsBoundary}
use Rattle.muni_rule.specs.WorthEnds.{WorthEnds, enclosure_ends}
use Rattle.muni_multi.specs.LastStep.{discount_low, discount_high, settled_low, settled_high, HoldsSum}

-- the m payments from place j on, on the day of the first of them, discounted by half a year at a
-- time: the lower end is rounded down
unfoldable pub sum_low : (ℕ → ℕ) → ℕ → ℕ → ℕ → ℕ
sum_low payment factor zero j = 0
sum_low payment factor (suc m) j =
    sum_low payment factor m (suc j) * factor / 2 ^ 60 + 4096 * payment j

-- and the upper end up
unfoldable pub sum_high : (ℕ → ℕ) → ℕ → ℕ → ℕ → ℕ
sum_high payment factor zero j = 0
sum_high payment factor (suc m) j =
    (sum_high payment factor m (suc j) * factor + (2 ^ 60 - 1)) / 2 ^ 60 + 4096 * payment j

-- the worth at the settlement
unfoldable pub horner_ends : PaymentSeries → ℤ → WorthEnds
horner_ends series y =
    enclosure_ends (settled_low (sum_low (payment_at series) (discount_low y) series.n 0) y series.a)
    (settled_high (sum_high (payment_at series) (discount_high y) series.n 0) y series.a)

-- two numbers are the ends of the discount factor of a yield in range
pub record AreDiscountEnds (lo hi : ℕ) : Type 0 where
  pub y : ℤ
  pub within : IsManyPeriodsBoundary y
  pub low : lo ≡ discount_low y
  pub high : hi ≡ discount_high y

-- all that the last step asks of a sum
pub record IsNarrowSum (series : PaymentSeries) (y : ℤ) (lo hi : ℕ) : Type 0 where
  pub holds : HoldsSum (to_come series) y lo hi
  pub ordered : lo ≤ hi
  pub below_limit : hi < 2 ^ 64
  pub narrow : hi ≤ lo + 8_200

-- every sum of this kind has it
abbrev pub SumsAreNarrow : Type 0
SumsAreNarrow =
    (series : PaymentSeries) (y : ℤ) → IsSeries series → IsManyPeriodsBoundary y
    → IsNarrowSum series y
    (sum_low (payment_at series) (discount_low y) series.n 0)
    (sum_high (payment_at series) (discount_high y) series.n 0)
