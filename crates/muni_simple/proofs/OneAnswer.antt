-- Two answers for one price are the same.
use Rattle.std.proofs.Common.{◌≡◌, ℤ, pos, ◌+ℤ◌, ◌≤ℤ◌, ◌<ℤ◌, arith, refl, ap}
use Rattle.std.proofs.lemmas.Int.{ints}
use Rattle.muni_rule.specs.SinglePayment.{SinglePayment, AtLeast, More}
use Rattle.muni_rule.specs.Outcomes.{IsBelow, IsAbove}
use Rattle.muni_rule.proofs.FallLemmas.{price_falls}
use Rattle.muni_rule.proofs.YieldLemmas.{reached-le, printed_yield-same}
use Rattle.muni_simple.specs.declared.yields.SimpleYield.{SimpleYield}
use Rattle.muni_simple.specs.declared.yields.SimpleYield.TheVariants.{Print, Below, Above, NoTime}
use Rattle.muni_simple.specs.Yields.{IsYieldAnswer, greatest_printed}

not_both : (least : ℤ) (payment : SinglePayment) (price : ℤ) → least ≤ℤ greatest_printed → pos 0 <ℤ payment.left → pos 0 <ℤ (price +ℤ payment.accrued) → IsBelow least (λ y. AtLeast payment y price) (λ y. More payment y price) → IsAbove greatest_printed (λ y. AtLeast payment y price) (λ y. More payment y price) → ⊥
not_both least payment price order left above below past =
    below.least_not_reached (reached-le (price_falls payment price left above) least (greatest_printed +ℤ pos 1) (omega (arith, ints)) past)

pub answer-same : (least : ℤ) (payment : SinglePayment) (price : ℤ) (answer other : SimpleYield) → least ≤ℤ greatest_printed → pos 0 <ℤ (price +ℤ payment.accrued) → IsYieldAnswer least payment price answer → IsYieldAnswer least payment price other → answer ≡ other
answer-same least payment price NoTime NoTime order above r s = refl
answer-same least payment price NoTime (Print t) order above r s = absurd (omega (arith, ints))
answer-same least payment price NoTime Below order above r s = absurd (omega (arith, ints))
answer-same least payment price NoTime Above order above r s = absurd (omega (arith, ints))
answer-same least payment price (Print t) NoTime order above r s = absurd (omega (arith, ints))
answer-same least payment price (Print t) (Print u) order above r s =
    ap Print (printed_yield-same (price_falls payment price r.0 above) t u r.1.printed s.1.printed)
answer-same least payment price (Print t) Below order above r s = absurd (s.1.least_not_reached r.1.not_below)
answer-same least payment price (Print t) Above order above r s = absurd (r.1.not_above s.1)
answer-same least payment price Below NoTime order above r s = absurd (omega (arith, ints))
answer-same least payment price Below (Print t) order above r s = absurd (r.1.least_not_reached s.1.not_below)
answer-same least payment price Below Below order above r s = refl
answer-same least payment price Below Above order above r s = absurd (not_both least payment price order r.0 above r.1 s.1)
answer-same least payment price Above NoTime order above r s = absurd (omega (arith, ints))
answer-same least payment price Above (Print t) order above r s = absurd (s.1.not_above r.1)
answer-same least payment price Above Below order above r s = absurd (not_both least payment price order r.0 above s.1 r.1)
answer-same least payment price Above Above order above r s = refl
