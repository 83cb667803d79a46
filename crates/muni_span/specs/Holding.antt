-- What an enclosure holds.
use Rattle.std.specs.Prelude.{ℕ, ◌^◌}
use Rattle.muni_span.specs.Fractions.{IsAtMost}

-- the fraction n / d lies between the j-th powers of two ends, which are counted in units of 1 / u:
-- with j = 1 the ends enclose n / d itself, and with j = 180 its 180th root
pub record HoldsPower (u lo hi j n d : ℕ) : Type 0 where
  pub below : IsAtMost (lo ^ j) (u ^ j) n d
  pub above : IsAtMost n d (hi ^ j) (u ^ j)
