-- A security with one payment left (MSRB Rule G-33(b)(i)): one with periodic interest and six months
-- or less to redemption, or one with interest at redemption.
-- Amounts are whole numbers of 1/(B * 10^9) dollars per 100 of par, where B is the days of a year, and
-- yields of 10^-6.
use Rattle.std.specs.Prelude.{◌*◌, ℤ, pos, ◌+ℤ◌, ◌*ℤ◌, ◌≤ℤ◌, ◌<ℤ◌}
use Rattle.muni_rule.specs.DayCount.{year_of}
use Rattle.muni_rule.specs.declared.basis.Basis.{Basis}

-- the redemption with the interest that is paid with it, the accrued interest, the days left, and the
-- basis by which days are counted
pub record SinglePayment : Type 0 where
  pub due : ℤ
  pub accrued : ℤ
  pub left : ℤ
  pub basis : Basis

-- one, as a growth: growths are counted in 1/(B * 10^6)
abbrev pub no_growth : SinglePayment → ℤ
no_growth payment = pos (year_of payment.basis * 1_000_000)

-- one and the yield of the days left
abbrev pub growth : SinglePayment → ℤ → ℤ
growth payment y = no_growth payment +ℤ (payment.left *ℤ y)

-- The price at a yield is due / growth - accrued. The comparisons below are of this fraction where
-- the growth is above zero, as it is at every yield at which the desk asks for a price.

-- the price at a yield is at least an amount
abbrev pub AtLeast : SinglePayment → ℤ → ℤ → Type 0
AtLeast payment y amount =
    ((amount +ℤ payment.accrued) *ℤ growth payment y) ≤ℤ (payment.due *ℤ no_growth payment)

-- the price at a yield is more than an amount
abbrev pub More : SinglePayment → ℤ → ℤ → Type 0
More payment y amount =
    ((amount +ℤ payment.accrued) *ℤ growth payment y) <ℤ (payment.due *ℤ no_growth payment)
