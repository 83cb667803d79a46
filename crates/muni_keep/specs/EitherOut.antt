-- The keeper that is out, of two cabinets of which one at most has lent one.
use Rattle.std.specs.Prelude.{ℕ, ◌+◌, ◌*◌, List, ◌++◌, Option, Some, None}
use Rattle.muni_keep.specs.EitherName.{prefix}

-- the second lends its keepers as odd numbers
abbrev pub out_by : Option (List ℕ × ℕ) → Option (List ℕ × ℕ) → Option (List ℕ × ℕ)
out_by (Some lent) second = Some (lent.0, 2 * lent.1)
out_by None (Some lent) = Some (prefix ++ lent.0, 2 * lent.1 + 1)
out_by None None = None
