-- ROUNDED: a computed price is rounded to the nearest thousandth of a dollar, and half a thousandth upward.
use Rattle.std.specs.Prelude.{◌≡◌, ℕ, ◌+◌, ◌*◌, Bool, true, false, MatchOption, Option, Some, None, nat_le, if◌then◌else◌, ℤ}
use Rattle.muni_rule.specs.Accuracy.{Reaches, price_amount}
use Rattle.muni_rule.specs.Discount.{discount_price}
use Rattle.muni_rule.specs.Doubt.{IsDoubtful}
use Rattle.muni_rule.specs.ManyPeriods as many
use Rattle.muni_rule.specs.SinglePayment as one
use Rattle.muni_rule.specs.declared.basis.Basis.TheVariants.{Thirty360}
use Rattle.muni_rule.specs.declared.verdict.Verdict.{Verdict}
use Rattle.muni_rule.specs.declared.verdict.Verdict.TheVariants.{Yes, No, Unsure}
use Rattle.muni_terms.specs.declared.row.IssueRow.{IssueRow}
use Rattle.muni_simple.specs.Single.{payment_of}
use Rattle.muni_sched.specs.declared.candidate.Shape.{Shape}
use Rattle.muni_sched.specs.declared.candidate.Shape.TheVariants.{Many, One, AtRedemption, Discount}
use Rattle.muni_msg.specs.declared.asked.Asked.{Asked}
use Rattle.muni_msg.specs.declared.asked.Given.{Given}
use Rattle.muni_msg.specs.declared.asked.Given.TheVariants.{AtYield, AtPrice, AtRate}
use Rattle.muni_msg.specs.declared.figures.Figures.{Figures}
use Rattle.muni_readings.specs.Disclosed.{IsFromDisclosed}
use Rattle.muni_readings.specs.Money.{with_price}

-- half a thousandth above a price in thousandths, in 10^-6 dollars, if the price is below 1,000 dollars
abbrev pub half_above : ℕ → Option ℕ
half_above t = if nat_le t 999_999 then Some (1_000 * t + 500) else None

-- the exact price of a redemption at a yield is at least a price in 10^-6 dollars
abbrev pub IsPriceAtYield : ℤ → Shape → ℕ → Type 0
IsPriceAtYield y (Many series) price =
    many.AtLeast (many.to_come series) y (price_amount Thirty360 price)
IsPriceAtYield y (One payment) price =
    one.AtLeast (payment_of payment) y (price_amount payment.basis price)
IsPriceAtYield y (AtRedemption payment) price =
    one.AtLeast (payment_of payment) y (price_amount payment.basis price)
IsPriceAtYield y (Discount days basis) price = ⊥

-- and at a discount rate
abbrev pub IsPriceAtRate : ℤ → Shape → ℕ → Type 0
IsPriceAtRate rate (Many series) price = ⊥
IsPriceAtRate rate (One payment) price = ⊥
IsPriceAtRate rate (AtRedemption payment) price = ⊥
IsPriceAtRate rate (Discount days basis) price =
    Reaches (discount_price basis rate days) (price_amount basis price)

-- a given price is not computed, and so it is not rounded
abbrev pub IsPriceReached : Given → Shape → ℕ → Type 0
IsPriceReached (AtYield y) shape price = IsPriceAtYield y shape price
IsPriceReached (AtPrice given) shape price = ⊥
IsPriceReached (AtRate rate) shape price = IsPriceAtRate rate shape price

-- it may be left open with several payments, if the exact price is within 10^-9 dollars of that price
abbrev pub IsPriceOpen : Given → Shape → ℕ → Type 0
IsPriceOpen (AtYield y) (Many series) price = IsDoubtful series y (price_amount Thirty360 price)
IsPriceOpen given shape price = ⊥

abbrev pub TellsReached : Given → Shape → ℕ → Verdict → Type 0
TellsReached given shape price Yes = IsPriceReached given shape price
TellsReached given shape price No = ¬ (IsPriceReached given shape price)
TellsReached given shape price Unsure = IsPriceOpen given shape price

-- a verdict that is never open
abbrev pub verdict_of : Bool → Verdict
verdict_of true = Yes
verdict_of false = No

-- the price that is shown, or the next thousandth if the exact price is nearer to that
abbrev pub rounded_by : Verdict → Asked → Figures → Option Figures
rounded_by Yes asked figures = with_price asked (figures.price + 1) figures
rounded_by No asked figures = Some figures
rounded_by Unsure asked figures = None

-- so it is by whether the exact price is at least half a thousandth above the one that is shown
pub record IsRoundedAt
    (half : ℕ) (asked : Asked) (figures : Figures) (shape : Shape) (theirs : Option Figures)
    : Type 0 where
  pub verdict : Verdict
  pub tells : TellsReached asked.given shape half verdict
  pub rounded : theirs ≡ rounded_by verdict asked figures

-- the exact price to the redemption that is disclosed
abbrev pub IsByRounding : IssueRow → Asked → Figures → Option Figures → Type 0
IsByRounding row asked figures theirs =
    MatchOption (half_above figures.price) (theirs ≡ None)
    (λ half. IsFromDisclosed (IsRoundedAt half asked figures) row asked figures theirs)
