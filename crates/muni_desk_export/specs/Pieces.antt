-- A text that is written piece by piece.
use Rattle.std.specs.Prelude.{◌≡◌, ℕ, List, [], ◌++◌, Option, Some, None}

-- the next piece of what is left, and what is left after it; or none, since nothing is left
abbrev pub IsNext : List ℕ → Option (List ℕ) → List ℕ → Type 0
IsNext old None new = old ≡ []
IsNext old (Some piece) new = old ≡ piece ++ new
