-- What a contract sees of an enclosure.
use Rattle.std.specs.Prelude.{ℕ, ◌≤◌}

-- a lower end and an upper end, in whole units
pub record Ends : Type 0 where
  pub lo : ℕ
  pub hi : ℕ
  pub ordered : lo ≤ hi
