-- Two ends between which the worth of the payments to come (MSRB Rule G-33(b)(i)) lies, at the
-- settlement and with the accrued interest. The worth itself, if it is known, is ends that are equal.
use Rattle.std.specs.Prelude.{ℕ, ◌+◌, ◌-◌, ◌*◌, ◌^◌, ◌<◌, ◌≤◌, nat_eq, if◌then◌else◌, Option, Some, None, unwrap_or, ℤ}
use Rattle.muni_rule.specs.Payments.{PaymentSeries, payment_at}
use Rattle.muni_rule.specs.ManyPeriods.{PeriodicPayments, discount_divisor, sum_to, discounted_sum, asked_power, worth_power}
use Rattle.muni_rule.specs.ExactCases.{is_par_bond, is_short}

-- the ends lo / unit and hi / unit
pub record WorthEnds : Type 0 where
  pub lo : ℕ
  pub hi : ℕ
  pub unit : ℕ

-- the worth lies between them: both sides raised to the power 180
pub record HoldsWorth (bond : PeriodicPayments) (y : ℤ) (ends : WorthEnds) : Type 0 where
  pub some : 0 < ends.unit
  pub below : asked_power bond y ends.lo ≤ ends.unit ^ 180 * worth_power bond y
  pub above : ends.unit ^ 180 * worth_power bond y ≤ asked_power bond y ends.hi

-- less than 10^-9 dollars lie between them
abbrev pub IsNarrow : WorthEnds → Type 0
IsNarrow ends = ends.hi < ends.lo + 360 * ends.unit

-- ends in 1/4096 of an amount, which enclosures have
abbrev pub enclosure_ends : ℕ → ℕ → WorthEnds
enclosure_ends lo hi = record { lo = lo; hi = hi; unit = 4096 }

-- both ends are one fraction
abbrev pub exactly : ℕ → ℕ → WorthEnds
exactly top unit = record { lo = top; hi = top; unit = unit }

-- on an interest date the last payment is n - 1 half-years away and one more, where half a year begins
abbrev pub more_half_years : PaymentSeries → ℕ
more_half_years series = if nat_eq series.a 0 then 1 else 0

-- the worth on an interest date, a fraction of whole powers
abbrev pub short_worth : PaymentSeries → ℕ → WorthEnds
short_worth series v =
    exactly (discounted_sum (payment_at series) 2_000_000 v series.n
    * 2_000_000 ^ more_half_years series)
    (v ^ (series.n - 1 + more_half_years series))

-- the worth in the exact cases, where v is two million and the yield
abbrev pub exact_worth : PaymentSeries → ℕ → Option WorthEnds
exact_worth series v =
    if nat_eq v 2_000_000 then Some (exactly (sum_to (payment_at series) series.n) 1)
    else (if is_par_bond series v then Some (exactly (series.redemption + series.accrued) 1)
    else (if is_short series then Some (short_worth series v)
    else None))

-- the ends that verdicts are read off: the worth itself in an exact case, and else an enclosure
abbrev pub ends_of : PaymentSeries → ℤ → WorthEnds → WorthEnds
ends_of series y enclosure = unwrap_or (exact_worth series (discount_divisor y)) enclosure
