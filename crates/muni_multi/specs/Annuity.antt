-- Equal payments half a year apart, from below.
-- Factors are in units of 2^-60, and worths of one in units of 2^-52.
use Rattle.std.specs.Prelude.{ℕ, ◌-◌, ◌*◌, ◌^◌, ◌≤◌, ℤ}
use Rattle.muni_rule.specs.Payments.{PaymentSeries}
use Rattle.muni_rule.specs.ManyPeriods.{to_come, discount_divisor, discounted_sum, whole_sum}
use Rattle.muni_multi.specs.Discount.{Factors}

-- the factors of a yield, how many payments of one there are after the first payment to come, the discount factor
-- up to the last of them, and what they are worth on the day of the first payment to come
pub record AnnuityView : Type 0 where
  pub discount : Factors
  pub count : ℕ
  pub last : ℕ
  pub worth : ℕ

abbrev pub annuity : Factors → ℕ → ℕ → ℕ → AnnuityView
annuity discount count last worth = record {
  discount = discount;
  count = count;
  last = last;
  worth = worth;
}

-- what n payments of one are worth on the day of the first, in 1 / v^(n - 1)
abbrev pub ones : ℕ → ℕ → ℕ
ones v n = discounted_sum (λ _. 1) 2_000_000 v n

-- neither the factor nor the worth is more than it is exactly
pub record IsAnnuity (of : AnnuityView) : Type 0 where
  pub last : of.last * discount_divisor of.discount.y ^ of.count ≤ 2 ^ 60 * 2_000_000 ^ of.count
  pub worth : of.worth * discount_divisor of.discount.y ^ of.count
      ≤ 2 ^ 52 * (2_000_000 * ones (discount_divisor of.discount.y) of.count)

-- payments are worth so many 256ths of an amount or more on the day of the first
pub record IsWorthBelow (series : PaymentSeries) (y : ℤ) (worth : ℕ) : Type 0 where
  pub below : worth * discount_divisor y ^ (series.n - 1) ≤ 256 * whole_sum (to_come series) y
