-- Fractions of whole numbers.
use Rattle.std.specs.Prelude.{ℕ, ◌*◌, ◌≤◌}

-- the fraction a / b is at most c / d, by their cross products
pub record IsAtMost (a b c d : ℕ) : Type 0 where
  pub cross : a * d ≤ c * b
