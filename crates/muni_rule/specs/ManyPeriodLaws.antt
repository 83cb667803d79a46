-- The comparison of many periods in the rule's own words, if it needs no root, and the exact cases.
use Rattle.std.specs.Prelude.{◌≡◌, ℕ, ◌+◌, ◌-◌, ◌*◌, ◌^◌, ◌<◌, ◌≤◌, ◌↔◌, true, length, ℤ, pos, ◌+ℤ◌, ◌*ℤ◌, ◌≤ℤ◌, ◌<ℤ◌}
use Rattle.muni_rule.specs.Payments.{PaymentSeries, IsSeries, payment_at}
use Rattle.muni_rule.specs.ManyPeriods.{PeriodicPayments, to_come, discount_divisor, sum_to, whole_sum, AtLeast, More}
use Rattle.muni_rule.specs.ExactCases.{IsParBond, IsExactCase, is_exact_case}
use Rattle.muni_rule.specs.WorthEnds.{WorthEnds, HoldsWorth, ends_of}

-- the price with the accrued interest compares with every amount as the fraction top / unit does
pub record ComparesAs (bond : PeriodicPayments) (y : ℤ) (top unit : ℕ) : Type 0 where
  pub at_least : (amount : ℤ) → AtLeast bond y amount
      ↔ (((amount +ℤ pos bond.accrued) *ℤ pos unit) ≤ℤ pos top)
  pub more : (amount : ℤ) → More bond y amount
      ↔ (((amount +ℤ pos bond.accrued) *ℤ pos unit) <ℤ pos top)

-- what is at or below zero with the accrued interest is reached and passed at every yield
abbrev pub BelowZeroIsReached : Type 0
BelowZeroIsReached =
    (series : PaymentSeries) (y amount : ℤ)
    → IsSeries series → (amount +ℤ pos series.accrued) ≤ℤ pos 0
    → AtLeast (to_come series) y amount × More (to_come series) y amount

-- on the day that begins half a year, all payments discounted to the first and half a year more
abbrev pub FirstDayIsFraction : Type 0
FirstDayIsFraction =
    (bond : PeriodicPayments) (y : ℤ)
    → 1 ≤ length bond.payments → bond.a ≡ 0 → 0 < discount_divisor y
    → ComparesAs bond y (whole_sum bond y * 2_000_000) (discount_divisor y ^ length bond.payments)

-- on the day that ends it, all payments discounted to the first
abbrev pub LastDayIsFraction : Type 0
LastDayIsFraction =
    (bond : PeriodicPayments) (y : ℤ)
    → 1 ≤ length bond.payments → bond.a ≡ 180 → 0 < discount_divisor y
    → ComparesAs bond y (whole_sum bond y) (discount_divisor y ^ (length bond.payments - 1))

-- at a yield of zero, the sum of the payments
abbrev pub ZeroYieldIsSum : Type 0
ZeroYieldIsSum =
    (series : PaymentSeries) → IsSeries series
    → ComparesAs (to_come series) (pos 0) (sum_to (payment_at series) series.n) 1

-- for a par bond on an interest date, the redemption with the accrued interest
abbrev pub ParBondIsRedemption : Type 0
ParBondIsRedemption =
    (series : PaymentSeries) (y : ℤ) → IsSeries series → IsParBond series y
    → ComparesAs (to_come series) y (series.redemption + series.accrued) 1

-- that the interest is half the yield on the redemption, in the numbers of an issue: of a coupon in
-- 10^-7 dollars a year and a redemption price in 10^-6 dollars
abbrev pub ParYieldIsCoupon : Type 0
ParYieldIsCoupon =
    (coupon price : ℕ) (y : ℤ)
    → (pos (18_000 * coupon * 2_000_000) ≡ y *ℤ pos (360_000 * price))
    ↔ (pos (coupon * 100_000) ≡ y *ℤ pos price)

-- the numbers of a series tell which cases apply
abbrev pub NumbersTellExactCases : Type 0
NumbersTellExactCases =
    (series : PaymentSeries) (y : ℤ) → IsSeries series
    → (is_exact_case series (discount_divisor y) ≡ true) ↔ IsExactCase series y

-- the ends are the worth itself
pub record IsWorth (bond : PeriodicPayments) (y : ℤ) (ends : WorthEnds) : Type 0 where
  pub equal : ends.lo ≡ ends.hi
  pub holds : HoldsWorth bond y ends

-- in an exact case verdicts are read off the worth, and else off the enclosure
abbrev pub ExactCasesAreExact : Type 0
ExactCasesAreExact =
    (series : PaymentSeries) (y : ℤ) (enclosure : WorthEnds)
    → IsSeries series → 0 < discount_divisor y → IsExactCase series y
    → IsWorth (to_come series) y (ends_of series y enclosure)

abbrev pub OthersAreEnclosed : Type 0
OthersAreEnclosed =
    (series : PaymentSeries) (y : ℤ) (enclosure : WorthEnds)
    → IsSeries series → ¬ (IsExactCase series y) → ends_of series y enclosure ≡ enclosure
