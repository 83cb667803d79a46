-- The yields that are answered for one payment to come.
use Rattle.std.specs.Prelude.{◌≡◌, ⊤, ℤ, pos, ◌+ℤ◌, ◌≤ℤ◌, ◌<ℤ◌}
use Rattle.muni_rule.specs.SinglePayment.{SinglePayment, AtLeast, More}
use Rattle.muni_rule.specs.Outcomes.{IsBelow, IsAbove, IsPrint}
use Rattle.muni_rule.specs.Ranges.{IsWithin, one_period_prints, at_redemption_prints}
use Rattle.muni_rule.specs.declared.ranges.YieldRange.{YieldRange}
use Rattle.muni_simple.specs.declared.single.Shape1.{Shape1}
use Rattle.muni_simple.specs.declared.single.Shape1.TheVariants.{OnePeriod, AtRedemption}
use Rattle.muni_simple.specs.declared.yields.SimpleYield.{SimpleYield}
use Rattle.muni_simple.specs.declared.yields.SimpleYield.TheVariants.{Print, Below, Above, NoTime}

-- the yields that are printed for a payment of a shape
abbrev pub printed_range : Shape1 → YieldRange
printed_range OnePeriod = one_period_prints
printed_range AtRedemption = at_redemption_prints

-- the least of them
abbrev pub least_printed : Shape1 → ℤ
least_printed shape = (printed_range shape).least

-- the greatest, which is that of both shapes
abbrev pub greatest_printed : ℤ
greatest_printed = one_period_prints.greatest

-- The answer for a price, by the exact outcome. With no day left there is no yield.
abbrev pub IsYieldAnswer : ℤ → SinglePayment → ℤ → SimpleYield → Type 0
IsYieldAnswer least payment price NoTime = payment.left ≡ pos 0
IsYieldAnswer least payment price (Print t) =
    (pos 0 <ℤ payment.left)
    × IsPrint least greatest_printed (λ y. AtLeast payment y price) (λ y. More payment y price) t
IsYieldAnswer least payment price Below =
    (pos 0 <ℤ payment.left)
    × IsBelow least (λ y. AtLeast payment y price) (λ y. More payment y price)
IsYieldAnswer least payment price Above =
    (pos 0 <ℤ payment.left)
    × IsAbove greatest_printed (λ y. AtLeast payment y price) (λ y. More payment y price)

-- a printed yield is in its range
abbrev pub PrintsWithin : YieldRange → SimpleYield → Type 0
PrintsWithin range (Print t) = IsWithin range t
PrintsWithin range _ = ⊤

-- One answer is right and no other, so each comes exactly if its case applies.
abbrev pub AnswersOneYield : Type 0
AnswersOneYield =
    (least : ℤ) (payment : SinglePayment) (price : ℤ) (answer other : SimpleYield)
    → least ≤ℤ greatest_printed → pos 0 <ℤ (price +ℤ payment.accrued)
    → IsYieldAnswer least payment price answer → IsYieldAnswer least payment price other
    → answer ≡ other
