-- The ranges of decimals, in units of their last place.
use Rattle.std.specs.Prelude.{ℕ, ◌≤◌, ℤ, pos, neg_ℤ, ◌≤ℤ◌}
use Rattle.muni_rule.specs.Ranges.{IsWithin, one_period_prints}

-- from the least to the greatest
abbrev pub IsAmount : ℕ → ℕ → ℕ → Type 0
IsAmount least greatest units = (least ≤ units) × (units ≤ greatest)

-- from so many below zero to the greatest
abbrev pub IsPercent : ℕ → ℕ → ℤ → Type 0
IsPercent below greatest units = (neg_ℤ (pos below) ≤ℤ units) × (units ≤ℤ pos greatest)

-- a printed yield, of any security: the widest range is that of one period
abbrev pub IsYield3 : ℤ → Type 0
IsYield3 units = IsWithin one_period_prints units
