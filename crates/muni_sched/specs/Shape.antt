-- How a redemption is priced.
use Rattle.std.specs.Prelude.{◌≡◌, ℕ, ◌≤◌, if◌then◌else◌, Option, Some, option_map, pos, ◌≤ℤ◌}
use Rattle.muni_rule.specs.DayCount.{days_by}
use Rattle.muni_rule.specs.LastPayment.{is_last_period, last_payment, note_payment}
use Rattle.muni_rule.specs.Payments.{PaymentSeries, IsSeries}
use Rattle.muni_rule.specs.Redemptions.{par_price}
use Rattle.muni_rule.specs.SinglePayment.{SinglePayment}
use Rattle.muni_days.specs.Day.{civil}
use Rattle.muni_days.specs.declared.day.Day.{Day}
use Rattle.muni_simple.specs.Single.{IsSingle}
use Rattle.muni_simple.specs.declared.single.Single.{Single}
use Rattle.muni_simple.specs.declared.single.Shape1.TheVariants as single_shape
use Rattle.muni_terms.specs.Issue.{series_of}
use Rattle.muni_terms.specs.declared.row.Kind.{Kind}
use Rattle.muni_terms.specs.declared.row.Kind.TheVariants as kind
use Rattle.muni_terms.specs.declared.row.IssueRow.{IssueRow}
use Rattle.muni_sched.specs.declared.candidate.Shape.{Shape}
use Rattle.muni_sched.specs.declared.candidate.Shape.TheVariants.{Many, One, AtRedemption, Discount}
use Rattle.muni_sched.specs.declared.shape.Pricing.{Pricing}
use Rattle.muni_sched.specs.declared.shape.Pricing.TheVariants.{Series, Note}

-- a payment to come as the calculators take it
abbrev pub single : SinglePayment → Single
single payment = record {
  due = payment.due;
  accrued = payment.accrued;
  left = payment.left;
  basis = payment.basis;
}

-- in the last six months the one payment counts, and before them all that are to come
abbrev pub series_shape : PaymentSeries → Shape
series_shape series =
    if is_last_period series then One (single (last_payment series)) else Many series

-- the shape of a redemption after a settlement, by the kind of the issue
abbrev pub shape_by : Kind → IssueRow → Day → Day → ℕ → Option Shape
shape_by (kind.Periodic first) row settlement date price =
    option_map series_shape (series_of row settlement date price)
shape_by kind.Zero row settlement date price =
    option_map series_shape (series_of row settlement date price)
shape_by kind.AtRedemption row settlement date price =
    Some (AtRedemption (single (note_payment row.basis row.coupon (civil row.dated)
    (civil row.maturity) (civil settlement))))
shape_by kind.Discount row settlement date price =
    Some (Discount (days_by row.basis (civil settlement) (civil row.maturity)) row.basis)

abbrev pub shape_at : IssueRow → Day → Day → ℕ → Option Shape
shape_at row settlement date price = shape_by row.kind row settlement date price

-- the numbers of a shape are in the ranges that the calculators take
abbrev pub IsPriceable : Shape → Type 0
IsPriceable (Many series) = IsSeries series × (2 ≤ series.n)
IsPriceable (One payment) = IsSingle single_shape.OnePeriod payment
IsPriceable (AtRedemption payment) = IsSingle single_shape.AtRedemption payment
IsPriceable (Discount days basis) = (pos 0 ≤ℤ days) × (days ≤ℤ pos 720)

-- the payments up to maturity, or the shape that a note has at every redemption
abbrev pub IsPricing : IssueRow → Day → Pricing → Type 0
IsPricing row settlement (Series known) =
    Some known ≡ series_of row settlement row.maturity par_price
IsPricing row settlement (Note shape) =
    IsPriceable shape
    × ((date : Day) (price : ℕ) → Some shape ≡ shape_at row settlement date price)
