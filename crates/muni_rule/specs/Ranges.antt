-- The yields and rates that may be given, in 10^-6, and the yields that are printed, in 10^-5. The
-- ranges are this desk's own choice. A yield is printed in the range in which it may be given.
use Rattle.std.specs.Prelude.{if◌then◌else◌, Option, Some, None, ℤ, pos, negsuc, ◌≤ℤ◌}
use Rattle.std.specs.Int.Signed.{lt_z}
use Rattle.std.specs.declared.cmp.Ordering.{Ordering}
use Rattle.std.specs.declared.cmp.Ordering.TheVariants.{Less, Greater}
use Rattle.muni_rule.specs.declared.ranges.YieldRange.{YieldRange}

-- a yield is in a range
abbrev pub IsWithin : YieldRange → ℤ → Type 0
IsWithin range y = (range.least ≤ℤ y) × (y ≤ℤ range.greatest)

-- the side on which a yield leaves a range, if it does
abbrev pub side_of : YieldRange → ℤ → Option Ordering
side_of range y =
    if lt_z y range.least then Some Less
    else (if lt_z range.greatest y then Some Greater else None)

-- from -90 to 999.999 percent, with six months or less to redemption
abbrev pub one_period_yields : YieldRange
one_period_yields = record { least = negsuc 899_999; greatest = pos 9_999_990 }

abbrev pub one_period_prints : YieldRange
one_period_prints = record { least = negsuc 89_999; greatest = pos 999_999 }

abbrev pub IsOnePeriodYield : ℤ → Type 0
IsOnePeriodYield y = IsWithin one_period_yields y

-- from -45 to 999.999 percent, with interest at redemption, and the return of a discount
abbrev pub at_redemption_yields : YieldRange
at_redemption_yields = record { least = negsuc 449_999; greatest = pos 9_999_990 }

abbrev pub at_redemption_prints : YieldRange
at_redemption_prints = record { least = negsuc 44_999; greatest = pos 999_999 }

abbrev pub IsAtRedemptionYield : ℤ → Type 0
IsAtRedemptionYield y = IsWithin at_redemption_yields y

-- from -5 to 100 percent, with more than six months to redemption
abbrev pub many_periods_yields : YieldRange
many_periods_yields = record { least = negsuc 49_999; greatest = pos 1_000_000 }

abbrev pub many_periods_prints : YieldRange
many_periods_prints = record { least = negsuc 4_999; greatest = pos 100_000 }

-- there, every yield at which one is asked for that is printed in the range or next to it
abbrev pub IsManyPeriodsBoundary : ℤ → Type 0
IsManyPeriodsBoundary y = (negsuc 50_004 ≤ℤ y) × (y ≤ℤ pos 1_000_005)

-- discount rates, from 0 to 30 percent
abbrev pub discount_rates : YieldRange
discount_rates = record { least = pos 0; greatest = pos 300_000 }

abbrev pub IsDiscountRate : ℤ → Type 0
IsDiscountRate rate = IsWithin discount_rates rate
