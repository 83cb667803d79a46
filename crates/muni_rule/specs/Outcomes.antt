-- The exact outcome of a given price (MSRB Rule G-33(b)(ii)): a printed yield in one of the desk's
-- ranges, or the side on which it leaves the range. `AtLeast` and `More` tell the price at each yield, as for the printed yield.
use Rattle.std.specs.Prelude.{◌≡◌, ◌⊎◌, ℤ, pos, ◌+ℤ◌}
use Rattle.muni_rule.specs.PrintedYield.{Reached, IsPrintedYield}

-- not even the least printed yield is reached
pub record IsBelow (least : ℤ) (AtLeast More : ℤ → Type 0) : Type 0 where
  pub least_not_reached : ¬ (Reached AtLeast More least)

-- the yield past the greatest printed one is reached
abbrev pub IsAbove : ℤ → (AtLeast More : ℤ → Type 0) → Type 0
IsAbove greatest AtLeast More = Reached AtLeast More (greatest +ℤ pos 1)

-- neither, and the yield is printed as t
pub record IsPrint (least greatest : ℤ) (AtLeast More : ℤ → Type 0) (t : ℤ) : Type 0 where
  pub not_below : Reached AtLeast More least
  pub not_above : ¬ (IsAbove greatest AtLeast More)
  pub printed : IsPrintedYield AtLeast More t

-- one of the three is the outcome, and no other
pub record HasOneOutcome (least greatest : ℤ) (AtLeast More : ℤ → Type 0) : Type 0 where
  pub some : IsBelow least AtLeast More
      ⊎ (IsAbove greatest AtLeast More ⊎ ((t : ℤ) × IsPrint least greatest AtLeast More t))
  pub not_below_and_above : IsBelow least AtLeast More → ¬ (IsAbove greatest AtLeast More)
  pub not_below_and_printed : (t : ℤ) → IsBelow least AtLeast More
      → ¬ (IsPrint least greatest AtLeast More t)
  pub not_above_and_printed : (t : ℤ) → IsAbove greatest AtLeast More
      → ¬ (IsPrint least greatest AtLeast More t)
  pub one_is_printed : (s t : ℤ) → IsPrint least greatest AtLeast More s
      → IsPrint least greatest AtLeast More t → s ≡ t
