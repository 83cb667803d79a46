-- Which terms an issue may have at the desk, which is this desk's own choice.
use Rattle.std.specs.Prelude.{ℕ, ◌&&◌, Bool, true, false, nat_le, nat_lt, int_le, List, length, pos}
use Rattle.std.specs.List.{list_all}
use Rattle.muni_rule.specs.Civil.{Civil, is_before, is_not_after}
use Rattle.muni_rule.specs.DayCount.{days360, days_by}
use Rattle.muni_rule.specs.QuasiDates.{quasi_count, is_quasi_date}
use Rattle.muni_rule.specs.declared.basis.Basis.{Basis}
use Rattle.muni_rule.specs.declared.basis.Basis.TheVariants.{Thirty360, Actual365}

-- a byte from the space to the tilde
abbrev pub is_printable : ℕ → Bool
is_printable byte = nat_le 32 byte && nat_le byte 126

-- one such byte or more
abbrev pub is_name : List ℕ → Bool
is_name name = nat_lt 0 (length name) && list_all is_printable name

-- a dated date is not before 1902
abbrev pub is_dated_date : Civil → Bool
is_dated_date date = nat_le 1902 date.year

-- interest falls on a day that every month has, so that half a year always counts 180 days
abbrev pub is_interest_day : Civil → Bool
is_interest_day date = nat_le date.day 28

-- the first interest is of 360 days at most
abbrev pub is_first_interest_short : Civil → Civil → Bool
is_first_interest_short dated first = int_le (days360 dated first) (pos 360)

-- at most 100 quasi-coupon dates stand after the dated date and up to maturity
abbrev pub is_series_short : Civil → Civil → Civil → Bool
is_series_short anchor dated maturity = nat_le (quasi_count anchor dated maturity) 100

-- an issue counts days by 30/360, save notes, which may count them by actual/365
abbrev pub is_basis_of_bonds : Basis → Bool
is_basis_of_bonds Thirty360 = true
is_basis_of_bonds Actual365 = false

-- a note runs 720 days at most, counted by its basis
abbrev pub is_note_short : Basis → Civil → Civil → Bool
is_note_short basis dated maturity = int_le (days_by basis dated maturity) (pos 720)

-- an issue with coupons is called on a quasi-coupon date from the first interest date on
abbrev pub is_coupon_call_date : Civil → Civil → Civil → Bool
is_coupon_call_date first maturity date =
    is_quasi_date first date && (is_before date maturity && is_not_after first date)

-- one without coupons on a quasi-coupon date after the dated date
abbrev pub is_zero_call_date : Civil → Civil → Civil → Bool
is_zero_call_date dated maturity date =
    is_quasi_date maturity date && (is_before date maturity && is_before dated date)

-- a call pays 1 to 200 dollars per 100 of par; prices are in 10^-6 dollars
abbrev pub is_call_price : ℕ → Bool
is_call_price price = nat_le 1_000_000 price && nat_le price 200_000_000
