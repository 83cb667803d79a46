-- The discount factors of one yield on a day of an interest period.
-- Factors are in units of 2^-60.
use Rattle.std.specs.Prelude.{◌≡◌, ℕ, ◌≤◌, ℤ}
use Rattle.muni_rule.specs.Ranges.{IsManyPeriodsBoundary}
use Rattle.muni_span.specs.Ends.{Ends}
use Rattle.muni_multi.specs.LastStep.{discount_low, discount_high, part_low, part_high}

-- the yield, the days since the interest period began, the factor of half a year, and that of the
-- days up to the first payment
pub record Factors : Type 0 where
  pub y : ℤ
  pub a : ℕ
  pub half_year : Ends
  pub part : Ends

abbrev pub factors : ℤ → ℕ → Ends → Ends → Factors
factors y a half_year part = record { y = y; a = a; half_year = half_year; part = part }

-- they are those of the yield and the day
pub record AreFactors (of : Factors) : Type 0 where
  pub within : IsManyPeriodsBoundary of.y
  pub days : of.a ≤ 180
  pub half_year_low : of.half_year.lo ≡ discount_low of.y
  pub half_year_high : of.half_year.hi ≡ discount_high of.y
  pub from_low : of.part.lo ≡ part_low of.y of.a
  pub from_high : of.part.hi ≡ part_high of.y of.a
