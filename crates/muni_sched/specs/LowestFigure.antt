-- The lowest figure over the candidates, or why there is none.
use Rattle.std.specs.Prelude.{ℕ, ℤ}

-- Low is a figure and the first candidate that prints it. Undecided is a figure and a candidate of which
-- it is open whether it reaches the next figure. Below is the first candidate below all its figures, and
-- NoTime the first without time. Candidates are counted from 0 in order of date.
pub data Lowest : Type 0 where
  Low : ℤ → ℕ → Lowest
  Undecided : ℤ → ℕ → Lowest
  Below : ℕ → Lowest
  Above : Lowest
  NoTime : ℕ → Lowest
