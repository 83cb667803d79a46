-- What is to come of a candidate at its settlement.
use Rattle.std.specs.Prelude.{ℤ}
use Rattle.muni_rule.specs.Discount.{discounted}
use Rattle.muni_rule.specs.Payments.{PaymentSeries}
use Rattle.muni_rule.specs.SinglePayment.{SinglePayment}
use Rattle.muni_simple.specs.Single.{payment_of}
use Rattle.muni_simple.specs.Yields.{least_printed}
use Rattle.muni_simple.specs.declared.single.Shape1.TheVariants as single
use Rattle.muni_sched.specs.declared.candidate.Shape.{Shape}
use Rattle.muni_sched.specs.declared.candidate.Shape.TheVariants.{Many, One, AtRedemption, Discount}

-- two payments or more, or one, with the least yield that is printed for it
pub data ToCome : Type 0 where
  many : PaymentSeries → ToCome
  one : ℤ → SinglePayment → ToCome

-- that is -90 percent, and -45 for notes
abbrev pub to_come_of : Shape → ToCome
to_come_of (Many series) = many series
to_come_of (One payment) = one (least_printed single.OnePeriod) (payment_of payment)
to_come_of (AtRedemption payment) = one (least_printed single.AtRedemption) (payment_of payment)
to_come_of (Discount days basis) =
    one (least_printed single.AtRedemption) (discounted basis days)
