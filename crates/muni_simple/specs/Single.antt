-- One payment to come as the program holds it, and the prices that are answered for it.
use Rattle.std.specs.Prelude.{◌≡◌, ℕ, ◌≤◌, ◌^◌, ℤ, pos, ◌≤ℤ◌, ⊤}
use Rattle.muni_rule.specs.SinglePayment.{SinglePayment}
use Rattle.muni_rule.specs.declared.basis.Basis.{Basis}
use Rattle.muni_rule.specs.declared.basis.Basis.TheVariants.{Thirty360}
use Rattle.muni_rule.specs.Printed.{IsPrintedPriceBy, IsBelowZero}
use Rattle.muni_rule.specs.Ranges.{IsOnePeriodYield, IsAtRedemptionYield}
use Rattle.muni_simple.specs.declared.single.Single.{Single}
use Rattle.muni_simple.specs.declared.single.Shape1.{Shape1}
use Rattle.muni_simple.specs.declared.single.Shape1.TheVariants.{OnePeriod, AtRedemption}
use Rattle.muni_simple.specs.declared.price.SimplePrice.{SimplePrice}
use Rattle.muni_simple.specs.declared.price.SimplePrice.TheVariants.{Price, BelowZero}

-- the payment as the rule sees it
abbrev pub payment_of : Single → SinglePayment
payment_of s =
    record { due = s.due; accrued = s.accrued; left = s.left; basis = s.basis }

-- the most days that may be left
abbrev pub most_left : Shape1 → ℕ
most_left OnePeriod = 180
most_left AtRedemption = 720

-- with interest paid periodically, days are counted by 30/360
abbrev pub IsBasisOf : Shape1 → Basis → Type 0
IsBasisOf OnePeriod basis = basis ≡ Thirty360
IsBasisOf AtRedemption basis = ⊤

-- the amounts and the days left are in their ranges
pub record IsSingle (shape : Shape1) (s : Single) : Type 0 where
  pub due : (pos 0 ≤ℤ s.due) × (s.due ≤ℤ pos (10 ^ 15))
  pub accrued : (pos 0 ≤ℤ s.accrued) × (s.accrued ≤ℤ pos (10 ^ 15))
  pub left : (pos 0 ≤ℤ s.left) × (s.left ≤ℤ pos (most_left shape))
  pub basis : IsBasisOf shape s.basis

-- the yield may be given for a payment of this shape
abbrev pub IsGivenYield : Shape1 → ℤ → Type 0
IsGivenYield OnePeriod y = IsOnePeriodYield y
IsGivenYield AtRedemption y = IsAtRedemptionYield y

-- what is answered is the printed price, or that the exact price is below zero
abbrev pub IsPriceAnswer : Basis → (ℤ → Type 0) → SimplePrice → Type 0
IsPriceAnswer basis AtLeast (Price t) = IsPrintedPriceBy basis AtLeast t
IsPriceAnswer basis AtLeast BelowZero = IsBelowZero AtLeast

-- a printed price is at most 100,000 dollars
abbrev pub PrintsAtMost : ℕ → SimplePrice → Type 0
PrintsAtMost limit (Price t) = t ≤ limit
PrintsAtMost limit BelowZero = ⊤
