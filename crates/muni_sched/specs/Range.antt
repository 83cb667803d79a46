-- The yields that may be given for redemption candidates.
use Rattle.std.specs.Prelude.{List, [], ◌∷◌, Option, Some, None, ℤ}
use Rattle.std.specs.declared.cmp.Ordering.{Ordering}
use Rattle.muni_rule.specs.Ranges.{IsWithin, side_of, one_period_yields, at_redemption_yields, discount_rates, many_periods_yields}
use Rattle.muni_rule.specs.declared.ranges.YieldRange.{YieldRange}
use Rattle.muni_sched.specs.declared.candidate.Candidate.{Candidate}
use Rattle.muni_sched.specs.declared.candidate.Shape.{Shape}
use Rattle.muni_sched.specs.declared.candidate.Shape.TheVariants.{Many, One, AtRedemption, Discount}

-- the range of the yields that may be given for a shape, or of the rates for a discounted note
abbrev pub given_range : Shape → YieldRange
given_range (Many series) = many_periods_yields
given_range (One payment) = one_period_yields
given_range (AtRedemption payment) = at_redemption_yields
given_range (Discount days basis) = discount_rates

-- a yield may be given for a candidate
abbrev pub IsGivenFor : ℤ → Candidate → Type 0
IsGivenFor y candidate = IsWithin (given_range candidate.shape) y

-- the side on which it leaves the range of a candidate, if it does
abbrev pub side_for : ℤ → Candidate → Option Ordering
side_for y candidate = side_of (given_range candidate.shape) y

-- the first of two sides, if there is one
abbrev pub first_of : Option Ordering → Option Ordering → Option Ordering
first_of (Some side) other = Some side
first_of None other = other

-- the side on which a yield leaves the range of the first candidate that excludes it, if one does
abbrev pub side_of_first : ℤ → List Candidate → Option Ordering
side_of_first y [] = None
side_of_first y (candidate ∷ rest) =
    first_of (side_for y candidate) (side_of_first y rest)
