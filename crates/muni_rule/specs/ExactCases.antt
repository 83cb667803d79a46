-- The cases in which the exact price of many periods (MSRB Rule G-33(b)(i)) is known without a root.
-- Amounts are whole numbers of 1/(360 * 10^9) dollars per 100 of par, yields of 10^-6.
use Rattle.std.specs.Prelude.{◌≡◌, ℕ, ◌+◌, ◌*◌, ◌≤◌, ◌⊎◌, Bool, nat_eq, nat_le, ◌&&◌, ◌||◌, replicate, ℤ, pos, ◌*ℤ◌}
use Rattle.muni_rule.specs.Payments.{PaymentSeries, payments_of, add_to_last}

-- the settlement is on an interest date: no day or the whole half-year has passed
abbrev pub IsOnInterestDate : PaymentSeries → Type 0
IsOnInterestDate series = (series.a ≡ 0) ⊎ (series.a ≡ 180)

-- nothing has accrued on the day that begins half a year, and one regular payment on the day that ends it
abbrev pub IsAccruedWhole : PaymentSeries → Type 0
IsAccruedWhole series =
    ((series.a ≡ 0) × (series.accrued ≡ 0))
    ⊎ ((series.a ≡ 180) × (series.accrued ≡ series.regular))

-- A bond on an interest date whose every payment, without the redemption, is the regular one, and that
-- is half the yield on the redemption. Its price is the redemption.
pub record IsParBond (series : PaymentSeries) (y : ℤ) : Type 0 where
  pub accrued : IsAccruedWhole series
  pub level : payments_of series ≡ add_to_last series.redemption (replicate series.n series.regular)
  pub yield : pos (series.regular * 2_000_000) ≡ y *ℤ pos series.redemption

-- three periods or less are left on an interest date, and the price is a fraction of small numbers
pub record IsShort (series : PaymentSeries) : Type 0 where
  pub date : IsOnInterestDate series
  pub few : series.n ≤ 3

-- one of the three: a yield of zero, if the price is the sum of the payments less the accrued
-- interest, a par bond on an interest date, or at most three periods on an interest date
abbrev pub IsExactCase : PaymentSeries → ℤ → Type 0
IsExactCase series y = (y ≡ pos 0) ⊎ (IsParBond series y ⊎ IsShort series)

-- The same read off the numbers of a series, where v is two million and the yield.

abbrev pub on_interest_date : PaymentSeries → Bool
on_interest_date series = nat_eq series.a 0 || nat_eq series.a 180

abbrev pub is_accrued_whole : PaymentSeries → Bool
is_accrued_whole series =
    (nat_eq series.a 0 && nat_eq series.accrued 0)
    || (nat_eq series.a 180 && nat_eq series.accrued series.regular)

-- no payment is 0 because there is no interest, and the first one is regular too
abbrev pub is_level : PaymentSeries → Bool
is_level series = nat_eq series.skip 0 && nat_eq series.first series.regular

-- redemption and interest discounted by half a year are the redemption
abbrev pub yields_par : PaymentSeries → ℕ → Bool
yields_par series v =
    nat_eq ((series.regular + series.redemption) * 2_000_000) (series.redemption * v)

abbrev pub is_par_bond : PaymentSeries → ℕ → Bool
is_par_bond series v = is_accrued_whole series && (is_level series && yields_par series v)

abbrev pub is_short : PaymentSeries → Bool
is_short series = on_interest_date series && nat_le series.n 3

abbrev pub is_exact_case : PaymentSeries → ℕ → Bool
is_exact_case series v = nat_eq v 2_000_000 || (is_par_bond series v || is_short series)
