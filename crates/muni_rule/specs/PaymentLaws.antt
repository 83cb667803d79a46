-- The numbers of a series stand for the list of its payments.
use Rattle.std.specs.Prelude.{◌≡◌, ℕ, ◌+◌, ◌<◌, ◌≤◌, nat_lt, nat_eq, if◌then◌else◌, true, Some}
use Rattle.muni_rule.specs.Civil.{Civil, IsCivil, order_of}
use Rattle.muni_rule.specs.QuasiDates.{is_quasi_date}
use Rattle.muni_rule.specs.Payments.{PaymentSeries, coupon_payments, zero_payments, coupon_series, zero_series, payments_of, payment_at}

-- a date from 1901 to 2199, so that a quasi-coupon date of the desk stands before it
pub record IsSettlementDate (date : Civil) : Type 0 where
  pub civil : IsCivil date
  pub year_from : 1901 ≤ date.year
  pub year_to : date.year ≤ 2199

-- a quasi-coupon date of an anchor whose day every month has, in the years of the desk
pub record IsRedemptionDate (anchor date : Civil) : Type 0 where
  pub anchor_civil : IsCivil anchor
  pub anchor_day : anchor.day ≤ 28
  pub civil : IsCivil date
  pub year_from : 1900 ≤ date.year
  pub year_to : date.year ≤ 2199
  pub quasi : is_quasi_date anchor date ≡ true

-- a redemption after a settlement
pub record IsRedeemedAfter (anchor settlement redemption : Civil) : Type 0 where
  pub settled : IsSettlementDate settlement
  pub redeemed : IsRedemptionDate anchor redemption
  pub after : order_of settlement < order_of redemption

-- that of an issue with coupons does not come before its first interest date
pub record IsCouponRedemption (first settlement redemption : Civil) : Type 0 where
  pub later : IsRedeemedAfter first settlement redemption
  pub first_year : 1900 ≤ first.year
  pub first_paid : order_of first ≤ order_of redemption

-- the numbers of an issue with coupons stand for its payments
abbrev pub CouponSeriesIsPayments : Type 0
CouponSeriesIsPayments =
    (dated first settlement redemption : Civil) (coupon price : ℕ) (series : PaymentSeries)
    → IsCouponRedemption first settlement redemption
    → coupon_series dated first coupon settlement redemption price ≡ Some series
    → payments_of series ≡ coupon_payments dated first coupon settlement redemption price

-- the numbers of an issue without coupons stand for its payments
abbrev pub ZeroSeriesIsPayments : Type 0
ZeroSeriesIsPayments =
    (maturity settlement redemption : Civil) (price : ℕ) (series : PaymentSeries)
    → IsRedeemedAfter maturity settlement redemption
    → zero_series maturity settlement redemption price ≡ Some series
    → payments_of series ≡ zero_payments maturity settlement redemption price

-- the interest in the payment at place k, if the first skip places have none
abbrev pub interest_at_place : ℕ → ℕ → ℕ → ℕ → ℕ
interest_at_place skip first regular k =
    if nat_lt k skip then 0 else (if nat_eq k skip then first else regular)

-- the numbers tell each payment: the interest at its place, and with the last one the redemption
abbrev pub PaymentsAreByPlace : Type 0
PaymentsAreByPlace =
    (series : PaymentSeries) (k : ℕ) → series.skip < series.n → k < series.n
    → payment_at series k ≡ interest_at_place series.skip series.first series.regular k
    + (if nat_eq (k + 1) series.n then series.redemption else 0)
