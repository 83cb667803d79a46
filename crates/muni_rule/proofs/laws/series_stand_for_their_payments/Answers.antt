use Rattle.muni_rule.proofs.PaymentLemmas.{coupon-series, zero-series}
use Rattle.muni_rule.proofs.SeriesLemmas.{payment-place}
use Rattle.muni_rule.proofs.laws.series_stand_for_their_payments.Goals as goal

pub returns-clause-coupons : goal.returns-clause-coupons
returns-clause-coupons c = λ dated first settlement redemption coupon price series redeemed computed. coupon-series dated first settlement redemption coupon price series redeemed computed

pub returns-clause-zeros : goal.returns-clause-zeros
returns-clause-zeros c = zero-series

pub returns-clause-by_place : goal.returns-clause-by_place
returns-clause-by_place c = payment-place
