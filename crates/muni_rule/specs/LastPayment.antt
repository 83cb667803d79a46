-- The one payment that is left to come (MSRB Rule G-33(b)(i)): of a security with periodic interest and
-- six months or less to redemption, and of a note with interest at redemption.
-- Amounts are whole numbers of 1/(B * 10^9) dollars per 100 of par, where B is the days of a year, and
-- coupons of 10^-7 dollars.
use Rattle.std.specs.Prelude.{ℕ, ◌==◌, Bool, pos, ◌+ℤ◌, ◌-ℤ◌}
use Rattle.muni_rule.specs.Civil.{Civil}
use Rattle.muni_rule.specs.DayCount.{days_by}
use Rattle.muni_rule.specs.Accrued.{interest}
use Rattle.muni_rule.specs.Discount.{par_amount}
use Rattle.muni_rule.specs.Payments.{PaymentSeries, payment_at}
use Rattle.muni_rule.specs.SinglePayment.{SinglePayment}
use Rattle.muni_rule.specs.declared.basis.Basis.{Basis}
use Rattle.muni_rule.specs.declared.basis.Basis.TheVariants.{Thirty360}

-- one payment of a series is to come
abbrev pub is_last_period : PaymentSeries → Bool
is_last_period series = series.n == 1

-- that payment, when 180 - A days are left
abbrev pub last_payment : PaymentSeries → SinglePayment
last_payment series = record {
  due = pos (payment_at series 0);
  accrued = pos series.accrued;
  left = pos 180 -ℤ pos series.a;
  basis = Thirty360;
}

-- that of a note: at maturity the interest of all days from the dated date on is paid with the
-- redemption
abbrev pub note_payment : Basis → ℕ → Civil → Civil → Civil → SinglePayment
note_payment basis coupon dated maturity settlement = record {
  due = par_amount basis +ℤ pos (interest coupon (days_by basis dated maturity));
  accrued = pos (interest coupon (days_by basis dated settlement));
  left = days_by basis dated maturity -ℤ days_by basis dated settlement;
  basis = basis;
}
