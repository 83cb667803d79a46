-- How large and how far apart the ends of a worth may be.
use Rattle.std.specs.Prelude.{◌+◌, ◌*◌, ◌^◌, ◌≤◌}
use Rattle.muni_rule.specs.WorthEnds.{WorthEnds}

-- the ends of every worth are in order, less than 2^53 whole amounts, and 10^-9 dollars apart at
-- most
pub record AreBounded (ends : WorthEnds) : Type 0 where
  pub some : 1 ≤ ends.unit
  pub ordered : ends.lo ≤ ends.hi
  pub small : ends.lo ≤ ends.unit * 2 ^ 53
  pub narrow : ends.hi ≤ ends.lo + 360 * ends.unit
