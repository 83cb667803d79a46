-- How the price moves with the yield, at a yield of 10^-6: the modified duration in years, the convexity
-- in years squared, and what the price falls by if the yield rises by 0.01 percent.
-- Amounts are whole numbers of 1/(B * 10^9) dollars per 100 of par, where B is the days of a year, and
-- 360 with more than one payment to come.
use Rattle.std.specs.Prelude.{ℕ, ◌+◌, ◌-◌, ◌*◌, ◌/◌, ◌^◌, ◌<◌, ◌≤◌, nat_eq, if◌then◌else◌, length, slice_index_or, Option, Some, None, ℤ, unsigned_abs}
use Rattle.muni_rule.specs.ManyPeriods.{PeriodicPayments, discount_divisor, discounted_sum, whole_sum}
use Rattle.muni_rule.specs.SinglePayment.{SinglePayment, growth}
use Rattle.muni_rule.specs.WorthEnds.{WorthEnds, HoldsWorth}

-- a fraction of whole numbers
pub record Fraction : Type 0 where
  pub top : ℕ
  pub bottom : ℕ

-- A number of last digits is printed for an exact number of them: it is within half a last digit and
-- 10^-6 of a last digit of it.
pub record IsPrintedFor (exact : Fraction) (digits : ℕ) : Type 0 where
  pub some : 0 < exact.bottom
  pub not_far_above : 2_000_000 * digits * exact.bottom
      ≤ 2_000_000 * exact.top + 1_000_002 * exact.bottom
  pub not_far_below : 2_000_000 * exact.top
      ≤ 2_000_000 * digits * exact.bottom + 1_000_002 * exact.bottom

-- with three decimals a last digit is a thousandth
abbrev pub IsPrintedThousandths : Fraction → ℕ → Type 0
IsPrintedThousandths exact t =
    IsPrintedFor (record { top = 1_000 * exact.top; bottom = exact.bottom }) t

-- the days from the settlement to the payment at place k
abbrev pub days_to : PeriodicPayments → ℕ → ℕ
days_to bond k = 180 * k + (180 - bond.a)

-- the sum of all payments to come at a yield, each one times its weight
abbrev pub weighted_sum : PeriodicPayments → (ℕ → ℕ) → ℤ → ℕ
weighted_sum bond weight y =
    discounted_sum (λ k. slice_index_or bond.payments k 0 * weight k) 2_000_000 (discount_divisor y)
    (length bond.payments)

-- With h = 1 + Y/2 and k + f half-years to the payment a_k, the duration is the sum of
-- (k + f) a_k / h^k, divided by 2h times the sum of a_k / h^k. The broken period would discount both
-- sums alike.
abbrev pub duration : PeriodicPayments → ℤ → Fraction
duration bond y = record {
  top = weighted_sum bond (days_to bond) y * 2_000_000;
  bottom = 360 * discount_divisor y * whole_sum bond y;
}

-- the convexity is the sum of (k + f)(k + f + 1) a_k / h^k, divided by 4h^2 times the sum of a_k / h^k
abbrev pub convexity : PeriodicPayments → ℤ → Fraction
convexity bond y = record {
  top = weighted_sum bond (λ k. days_to bond k * (days_to bond k + 180)) y * 2_000_000 ^ 2;
  bottom = 129_600 * discount_divisor y ^ 2 * whole_sum bond y;
}

-- The DV01 is the duration times the worth / 10,000, and a worth of 3.6 * 10^9 amounts with a duration of
-- one year makes 10^-6 dollars of it. If it is x of these, within half of one and 10^-6 of one, the worth
-- lies between these ends.
abbrev pub worth_of_dv01 : Fraction → ℕ → WorthEnds
worth_of_dv01 duration x = record {
  lo = 1_800 * (2_000_000 * x - 1_000_002) * duration.bottom;
  hi = 1_800 * (2_000_000 * x + 1_000_002) * duration.bottom;
  unit = duration.top;
}

abbrev pub IsPrintedDv01 : PeriodicPayments → ℤ → ℕ → Type 0
IsPrintedDv01 bond y x = HoldsWorth bond y (worth_of_dv01 (duration bond y) x)

-- With one payment left the duration is T / (1 + TY), where T is the time left in years
abbrev pub single_duration : SinglePayment → ℤ → Fraction
single_duration payment y = record {
  top = unsigned_abs payment.left * 1_000_000;
  bottom = unsigned_abs (growth payment y);
}

-- the convexity 2T^2 / (1 + TY)^2
abbrev pub single_convexity : SinglePayment → ℤ → Fraction
single_convexity payment y = record {
  top = 2 * (unsigned_abs payment.left * 1_000_000) ^ 2;
  bottom = unsigned_abs (growth payment y) ^ 2;
}

-- and the DV01, in 10^-6 dollars, the duration times the worth / 10,000
abbrev pub single_dv01 : SinglePayment → ℤ → Fraction
single_dv01 payment y = record {
  top = 100_000 * unsigned_abs payment.left * unsigned_abs payment.due;
  bottom = unsigned_abs (growth payment y) ^ 2;
}

-- The current yield in 10^-3 percent, if the price is not 0: the coupon divided by the price, truncated to
-- four decimals of the percentage and rounded to three. The coupon is in 10^-7 dollars a year, the
-- price in thousandths, both per 100 of par.
abbrev pub current_yield : ℕ → ℕ → Option ℕ
current_yield coupon price =
    if nat_eq price 0 then None else Some ((coupon * 100 / price + 5) / 10)
