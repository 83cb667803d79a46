-- A right answer says that the price is below zero exactly if it is, and a printed yield is in the
-- range of its shape.
use Rattle.std.proofs.Common.{◌≡◌, ℤ, ◌↔◌, arith, refl}
use Rattle.std.proofs.lemmas.Int.{ints}
use Rattle.muni_rule.specs.SinglePayment.{AtLeast}
use Rattle.muni_rule.specs.Printed.{IsBelowZero}
use Rattle.muni_rule.proofs.AtLeastLemmas.{AtLeast-closed}
use Rattle.muni_rule.proofs.OnePriceLemmas.{printed-not_below}
use Rattle.muni_simple.specs.declared.single.Single.{Single}
use Rattle.muni_simple.specs.declared.single.Shape1.{Shape1}
use Rattle.muni_simple.specs.declared.single.Shape1.TheVariants.{OnePeriod, AtRedemption}
use Rattle.muni_simple.specs.declared.yields.SimpleYield.{SimpleYield}
use Rattle.muni_simple.specs.Yields.{PrintsWithin, printed_range, least_printed, greatest_printed}
use Rattle.muni_simple.specs.declared.price.SimplePrice.{SimplePrice}
use Rattle.muni_simple.specs.declared.price.SimplePrice.TheVariants.{Price, BelowZero}
use Rattle.muni_simple.specs.Single.{IsSingle, IsGivenYield, IsPriceAnswer, payment_of}
use Rattle.muni_simple.proofs.GrowthLemmas.{growth-within}

pub answer_below : (shape : Shape1) (s : Single) (y : ℤ) (answer : SimplePrice) → IsSingle shape s → IsGivenYield shape y → IsPriceAnswer s.basis (AtLeast (payment_of s) y) answer → (answer ≡ BelowZero) ↔ IsBelowZero (AtLeast (payment_of s) y)
answer_below shape s y (Price t) single given right =
    let within = growth-within s.basis shape s.left y single.left.0 single.left.1 given in
    (λ e. absurd (cc), λ below. absurd (printed-not_below s.basis (AtLeast (payment_of s) y) t (AtLeast-closed (payment_of s) y (omega (arith, ints))) right below))
answer_below shape s y BelowZero single given right = (λ e. right, λ below. refl)

pub within_shape : (shape : Shape1) (answer : SimpleYield) → PrintsWithin (record { least = least_printed shape; greatest = greatest_printed }) answer → PrintsWithin (printed_range shape) answer
within_shape OnePeriod answer within = within
within_shape AtRedemption answer within = within
