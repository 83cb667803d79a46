-- Accrued interest (MSRB Rule G-33(a), and before an odd first coupon SIA, Standard Securities
-- Calculation Methods): the days for which it has accrued, and its amount.
-- Amounts are whole numbers of 1/(B * 10^9) dollars per 100 of par, where B is the days of a year, and
-- coupons of 10^-7 dollars.
use Rattle.std.specs.Prelude.{ℕ, ◌*◌, if◌then◌else◌, Option, Some, ℤ, unsigned_abs}
use Rattle.muni_rule.specs.Civil.{Civil, is_before}
use Rattle.muni_rule.specs.DayCount.{days360}
use Rattle.muni_rule.specs.QuasiDates.{days_into_period}

-- the interest of a yearly coupon for a number of days that is not negative
abbrev pub interest : ℕ → ℤ → ℕ
interest coupon days = 100 * coupon * unsigned_abs days

-- the interest of half a year, which counts 180 days
abbrev pub half_year_interest : ℕ → ℕ
half_year_interest coupon = 18_000 * coupon

-- The days for which a coupon has accrued at a settlement: before the first interest date all since
-- the dated date, however long ago, and from it on A.
abbrev pub coupon_accrued_days : Civil → Civil → Civil → Option ℤ
coupon_accrued_days dated first settlement =
    if is_before settlement first then Some (days360 dated settlement)
    else days_into_period first settlement
