-- Where the comparisons of one payment to come are those of the rule's fraction.
use Rattle.std.specs.Prelude.{ℤ, pos, ◌≤ℤ◌, ◌<ℤ◌}
use Rattle.muni_rule.specs.PrintedYield.{boundary}
use Rattle.muni_rule.specs.SinglePayment.{SinglePayment, growth}
use Rattle.muni_simple.specs.declared.single.Shape1.{Shape1}
use Rattle.muni_simple.specs.Single.{most_left}
use Rattle.muni_simple.specs.Yields.{least_printed}

-- The growth is above zero from the boundary of the least printed yield on. All yields that may be
-- given lie there, and the boundaries of all printed ones.
abbrev pub GrowthIsAboveZero : Type 0
GrowthIsAboveZero =
    (shape : Shape1) (payment : SinglePayment) (y : ℤ)
    → pos 0 ≤ℤ payment.left → payment.left ≤ℤ pos (most_left shape)
    → boundary (least_printed shape) ≤ℤ y
    → pos 0 <ℤ growth payment y
