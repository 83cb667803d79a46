-- COMPOUNDED: one payment is left, and it is discounted by the formula for several, compounded and not by simple
-- interest.
use Rattle.std.specs.Prelude.{◌≡◌, ℕ, ◌-◌, ◌⊎◌, [], ◌∷◌, MatchOption, Option, Some, None, option_map, option_and_then, ℤ, unsigned_abs}
use Rattle.muni_rule.specs.Accuracy.{price_amount, thousandths}
use Rattle.muni_rule.specs.Doubt.{IsNear}
use Rattle.muni_rule.specs.ManyPeriods.{PeriodicPayments, AtLeast, More}
use Rattle.muni_rule.specs.Outcomes.{IsBelow, IsAbove, IsPrint}
use Rattle.muni_rule.specs.Printed.{IsPrintedPrice, IsBelowZero}
use Rattle.muni_rule.specs.PrintedYield.{boundary, Reached}
use Rattle.muni_rule.specs.Ranges.{side_of, many_periods_yields, many_periods_prints}
use Rattle.muni_rule.specs.declared.basis.Basis.TheVariants.{Thirty360}
use Rattle.muni_rule.specs.declared.verdict.Verdict.{Verdict}
use Rattle.muni_rule.specs.declared.verdict.Verdict.TheVariants.{Yes, No, Unsure}
use Rattle.muni_terms.specs.declared.row.IssueRow.{IssueRow}
use Rattle.muni_simple.specs.declared.single.Single.{Single}
use Rattle.muni_sched.specs.declared.candidate.Shape.{Shape}
use Rattle.muni_sched.specs.declared.candidate.Shape.TheVariants.{Many, One, AtRedemption, Discount}
use Rattle.muni_msg.specs.declared.asked.Asked.{Asked}
use Rattle.muni_msg.specs.declared.asked.Given.{Given}
use Rattle.muni_msg.specs.declared.asked.Given.TheVariants.{AtYield, AtPrice, AtRate}
use Rattle.muni_msg.specs.declared.figures.Figures.{Figures}
use Rattle.muni_answer.specs.Trade.{net_price}
use Rattle.muni_readings.specs.Disclosed.{IsFromDisclosed}
use Rattle.muni_readings.specs.Money.{with_price}

-- the one payment as that formula takes it
abbrev pub compounded : Single → PeriodicPayments
compounded payment = record {
  payments = unsigned_abs payment.due ∷ [];
  accrued = unsigned_abs payment.accrued;
  a = 180 - unsigned_abs payment.left;
}

-- Its printed price at a yield. There is none below zero, and it may be left open within 10^-9 dollars of a
-- whole thousandth.
abbrev pub IsCompoundedPrice : Single → ℤ → Option ℕ → Type 0
IsCompoundedPrice payment y (Some price) = IsPrintedPrice (AtLeast (compounded payment) y) price
IsCompoundedPrice payment y None =
    IsBelowZero (AtLeast (compounded payment) y)
    ⊎ ((t : ℕ) × IsNear (compounded payment) y (thousandths t))

-- Its printed yield at a price that is an amount. There is none outside the range of several payments, and it
-- may be left open if the price at the boundary of two printed yields is within 10^-9 dollars of that.
abbrev pub IsCompoundedYield : Single → ℤ → Option ℤ → Type 0
IsCompoundedYield payment amount (Some yld) =
    IsPrint many_periods_prints.least many_periods_prints.greatest
    (λ y. AtLeast (compounded payment) y amount) (λ y. More (compounded payment) y amount) yld
IsCompoundedYield payment amount None =
    IsBelow many_periods_prints.least (λ y. AtLeast (compounded payment) y amount)
    (λ y. More (compounded payment) y amount)
    ⊎ (IsAbove many_periods_prints.greatest (λ y. AtLeast (compounded payment) y amount)
    (λ y. More (compounded payment) y amount)
    ⊎ ((t : ℤ) × IsNear (compounded payment) (boundary t) amount))

-- what a verdict says of a yield: it is printed as t or more, or less, or the price at the boundary is too near
abbrev pub TellsYield : Single → ℤ → ℤ → Verdict → Type 0
TellsYield payment amount t Yes =
    Reached (λ y. AtLeast (compounded payment) y amount) (λ y. More (compounded payment) y amount) t
TellsYield payment amount t No =
    ¬ (Reached (λ y. AtLeast (compounded payment) y amount)
    (λ y. More (compounded payment) y amount) t)
TellsYield payment amount t Unsure = IsNear (compounded payment) (boundary t) amount

-- figures with that price, and the money that follows from it
pub record HasCompoundedPrice
    (payment : Single) (y : ℤ) (asked : Asked) (figures : Figures) (theirs : Option Figures)
    : Type 0 where
  pub price : Option ℕ
  pub exact : IsCompoundedPrice payment y price
  pub has : theirs ≡ option_and_then (λ t. with_price asked t figures) price

-- figures with that yield
pub record HasCompoundedYield (payment : Single) (amount : ℤ) (figures : Figures) (theirs : Option Figures) : Type 0 where
  pub yld : Option ℤ
  pub exact : IsCompoundedYield payment amount yld
  pub has : theirs ≡ option_map (λ t. record figures { yld = t }) yld

-- at a yield the price, if the yield may be given for several payments, and at a price the yield
abbrev pub IsCompoundedAt : Given → Single → Asked → Figures → Option Figures → Type 0
IsCompoundedAt (AtYield y) payment asked figures theirs =
    MatchOption (side_of many_periods_yields y) (HasCompoundedPrice payment y asked figures theirs)
    (λ side. theirs ≡ None)
IsCompoundedAt (AtPrice price) payment asked figures theirs =
    HasCompoundedYield payment
    (price_amount Thirty360 (net_price asked.side price asked.fee)) figures theirs
IsCompoundedAt (AtRate rate) payment asked figures theirs = theirs ≡ None

-- several payments are discounted so by the rule, and notes are not touched
abbrev pub IsCompoundedOf : Asked → Figures → Shape → Option Figures → Type 0
IsCompoundedOf asked figures (Many series) theirs = theirs ≡ Some figures
IsCompoundedOf asked figures (One payment) theirs =
    IsCompoundedAt asked.given payment asked figures theirs
IsCompoundedOf asked figures (AtRedemption payment) theirs = theirs ≡ Some figures
IsCompoundedOf asked figures (Discount days basis) theirs = theirs ≡ Some figures

-- the redemption that is disclosed
abbrev pub IsByCompounding : IssueRow → Asked → Figures → Option Figures → Type 0
IsByCompounding row asked figures theirs =
    IsFromDisclosed (IsCompoundedOf asked figures) row asked figures theirs
