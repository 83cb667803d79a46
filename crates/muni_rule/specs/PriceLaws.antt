-- At every yield one price is printed, or the exact price is below zero.
use Rattle.std.specs.Prelude.{◌<◌, ℤ, pos, ◌<ℤ◌}
use Rattle.muni_rule.specs.Printed.{HasOnePrice, HasOnePriceBy}
use Rattle.muni_rule.specs.SinglePayment as single
use Rattle.muni_rule.specs.SinglePayment.{SinglePayment, growth}
use Rattle.muni_rule.specs.ManyPeriods as many
use Rattle.muni_rule.specs.ManyPeriods.{PeriodicPayments, discount_divisor}

-- of one payment to come, where one and the yield of the days left are above zero
abbrev pub OnePaymentHasOnePrice : Type 0
OnePaymentHasOnePrice =
    (payment : SinglePayment) (y : ℤ) → pos 0 <ℤ growth payment y
    → HasOnePriceBy payment.basis (single.AtLeast payment y)

-- of many periods, where one and half the yield are above zero
abbrev pub ManyPeriodsHaveOnePrice : Type 0
ManyPeriodsHaveOnePrice =
    (bond : PeriodicPayments) (y : ℤ) → 0 < discount_divisor y
    → HasOnePrice (many.AtLeast bond y)
