-- The payments that follow a settlement, up to a redemption (MSRB Rule G-33(b)(i), and for an odd
-- first coupon SIA, Standard Securities Calculation Methods).
-- Amounts are whole numbers of 1/(360 * 10^9) dollars per 100 of par, coupons of 10^-7 dollars and
-- redemption prices of 10^-6 dollars.
use Rattle.std.specs.Prelude.{ℕ, ◌+◌, ◌-◌, ◌*◌, ◌<◌, ◌≤◌, ◌==◌, if◌then◌else◌, List, [], ◌∷◌, ◌++◌, map, replicate, slice_index_or, Option, option_map, option_and_then, ℤ, unsigned_abs}
use Rattle.muni_rule.specs.Civil.{Civil, order_of, is_before}
use Rattle.muni_rule.specs.DayCount.{days360}
use Rattle.muni_rule.specs.QuasiDates.{quasi_dates_between, quasi_count, days_into_period}
use Rattle.muni_rule.specs.Accrued.{interest, half_year_interest, coupon_accrued_days}

-- The interest that is paid at a quasi-coupon date: none before the first interest date, on it that
-- of all days since the dated date (half a year, or an odd first coupon), and later half a year's.
abbrev pub interest_at : Civil → Civil → ℕ → Civil → ℕ
interest_at dated first coupon date =
    if is_before date first then 0
    else (if order_of date == order_of first then interest coupon (days360 dated first)
    else half_year_interest coupon)

-- a redemption price as an amount
abbrev pub redemption_amount : ℕ → ℕ
redemption_amount price = 360_000 * price

-- an amount that is added to the last payment
abbrev pub add_to_last : ℕ → List ℕ → List ℕ
add_to_last amount [] = []
add_to_last amount (payment ∷ []) = (payment + amount) ∷ []
add_to_last amount (payment ∷ next ∷ rest) = payment ∷ add_to_last amount (next ∷ rest)

-- the payments of an issue with coupons, in order of their dates
unfoldable pub coupon_payments : Civil → Civil → ℕ → Civil → Civil → ℕ → List ℕ
coupon_payments dated first coupon settlement redemption price =
    add_to_last (redemption_amount price)
    (map (interest_at dated first coupon) (quasi_dates_between first settlement redemption))

-- those of an issue without coupons, which count their dates from its maturity
unfoldable pub zero_payments : Civil → Civil → Civil → ℕ → List ℕ
zero_payments maturity settlement redemption price =
    add_to_last (redemption_amount price)
    (map (λ date. 0) (quasi_dates_between maturity settlement redemption))

-- A series of payments as numbers: n payments, of which the first `skip` are 0, the next one is
-- `first` and each later one `regular`, with the redemption added to the last. Beside them stand the
-- accrued interest and A.
pub record PaymentSeries : Type 0 where
  pub n : ℕ
  pub skip : ℕ
  pub first : ℕ
  pub regular : ℕ
  pub redemption : ℕ
  pub accrued : ℕ
  pub a : ℕ

-- the payments that the numbers stand for
abbrev pub payments_of : PaymentSeries → List ℕ
payments_of series =
    add_to_last series.redemption
    (replicate series.skip 0
    ++ series.first ∷ replicate (series.n - series.skip - 1) series.regular)

-- the payment at place k of those that the numbers stand for
abbrev pub payment_at : PaymentSeries → ℕ → ℕ
payment_at series k = slice_index_or (payments_of series) k 0

-- the bounds of every series
pub record IsSeries (series : PaymentSeries) : Type 0 where
  pub n_from : 1 ≤ series.n
  pub n_to : series.n ≤ 100
  pub skip : series.skip < series.n
  pub first : series.first ≤ 10_800_000_000_000
  pub regular : series.regular ≤ 5_400_000_000_000
  pub redemption_from : 360_000_000_000 ≤ series.redemption
  pub redemption_to : series.redemption ≤ 72_000_000_000_000
  pub accrued : series.accrued ≤ 10_800_000_000_000
  pub a : series.a ≤ 180

-- how many quasi-coupon dates pay nothing, since they stand before the first interest date
abbrev pub unpaid_count : Civil → Civil → ℕ
unpaid_count first settlement =
    if is_before settlement first then quasi_count first settlement first - 1 else 0

-- the first interest that is paid after a settlement
abbrev pub first_interest : Civil → Civil → ℕ → Civil → ℕ
first_interest dated first coupon settlement =
    if is_before settlement first then interest coupon (days360 dated first)
    else half_year_interest coupon

-- the numbers of an issue with coupons, where A and the days of accrued interest are known
abbrev pub coupon_numbers : Civil → Civil → ℕ → Civil → Civil → ℕ → ℤ → ℤ → PaymentSeries
coupon_numbers dated first coupon settlement redemption price into accrued = record {
  n = quasi_count first settlement redemption;
  skip = unpaid_count first settlement;
  first = first_interest dated first coupon settlement;
  regular = half_year_interest coupon;
  redemption = redemption_amount price;
  accrued = interest coupon accrued;
  a = unsigned_abs into;
}

abbrev pub coupon_series : Civil → Civil → ℕ → Civil → Civil → ℕ → Option PaymentSeries
coupon_series dated first coupon settlement redemption price =
    option_and_then (λ into. option_map
    (coupon_numbers dated first coupon settlement redemption price into)
    (coupon_accrued_days dated first settlement)) (days_into_period first settlement)

-- those of an issue without coupons
abbrev pub zero_numbers : Civil → Civil → Civil → ℕ → ℤ → PaymentSeries
zero_numbers maturity settlement redemption price into = record {
  n = quasi_count maturity settlement redemption;
  skip = 0;
  first = 0;
  regular = 0;
  redemption = redemption_amount price;
  accrued = 0;
  a = unsigned_abs into;
}

abbrev pub zero_series : Civil → Civil → Civil → ℕ → Option PaymentSeries
zero_series maturity settlement redemption price =
    option_map (zero_numbers maturity settlement redemption price)
    (days_into_period maturity settlement)
