-- A security with periodic interest and more than six months to redemption (MSRB Rule G-33(b)(i)):
-- two payments or more are to come, half a year apart.
-- Amounts are whole numbers of 1/(360 * 10^9) dollars per 100 of par, yields of 10^-6.
use Rattle.std.specs.Prelude.{ℕ, zero, suc, ◌+◌, ◌-◌, ◌*◌, ◌^◌, ◌<◌, ◌≤◌, ⊤, List, length, slice_index_or, ℤ, pos, negsuc, ◌+ℤ◌}
use Rattle.muni_rule.specs.Payments.{PaymentSeries, payments_of}

-- the payments to come in order of date, the accrued interest, and A, the days from the last
-- quasi-coupon date up to the settlement
pub record PeriodicPayments : Type 0 where
  pub payments : List ℕ
  pub accrued : ℕ
  pub a : ℕ

-- those that the numbers of a series stand for
abbrev pub to_come : PaymentSeries → PeriodicPayments
to_come series = record { payments = payments_of series; accrued = series.accrued; a = series.a }

-- two million and a yield: two million divided by it discounts an amount by half a year
abbrev pub discount_divisor : ℤ → ℕ
discount_divisor (pos y) = 2_000_000 + y
discount_divisor (negsuc y) = 2_000_000 - suc y

-- the sum of g over the places from 0 up to n - 1
unfoldable pub sum_to : (ℕ → ℕ) → ℕ → ℕ
sum_to g zero = 0
sum_to g (suc n) = sum_to g n + g n

-- What n payments are worth on the day of the first, where half a year discounts by h / v. It is
-- counted in 1 / v^(n - 1), to be whole: the payment at place k is discounted k times and so counts
-- h^k * v^(n - 1 - k) times.
unfoldable pub discounted_sum : (ℕ → ℕ) → ℕ → ℕ → ℕ → ℕ
discounted_sum payment h v n = sum_to (λ k. payment k * h ^ k * v ^ (n - 1 - k)) n

-- that of all payments to come, at a yield
abbrev pub whole_sum : PeriodicPayments → ℤ → ℕ
whole_sum bond y =
    discounted_sum (λ k. slice_index_or bond.payments k 0) 2_000_000 (discount_divisor y)
    (length bond.payments)

-- The worth at the settlement is the rule's sum of a_k / (1 + Y/2)^(k + (180 - A)/180). That has a
-- root, but its 180th power is a fraction: this is the numerator,
abbrev pub worth_power : PeriodicPayments → ℤ → ℕ
worth_power bond y = whole_sum bond y ^ 180 * 2_000_000 ^ (180 - bond.a)

-- and this is the denominator times the 180th power of x.
abbrev pub asked_power : PeriodicPayments → ℤ → ℕ → ℕ
asked_power bond y x =
    x ^ 180 * discount_divisor y ^ ((length bond.payments - 1) * 180 + (180 - bond.a))

-- the worth is at least x
pub record IsWorthAtLeast (bond : PeriodicPayments) (y : ℤ) (x : ℕ) : Type 0 where
  pub at_least : asked_power bond y x ≤ worth_power bond y

-- the worth is more than x
pub record IsWorthMore (bond : PeriodicPayments) (y : ℤ) (x : ℕ) : Type 0 where
  pub more : asked_power bond y x < worth_power bond y

-- the price with the accrued interest is at least so much, as it always is below zero
abbrev pub DirtyAtLeast : PeriodicPayments → ℤ → ℤ → Type 0
DirtyAtLeast bond y (pos x) = IsWorthAtLeast bond y x
DirtyAtLeast bond y (negsuc _) = ⊤

-- and it is more
abbrev pub DirtyMore : PeriodicPayments → ℤ → ℤ → Type 0
DirtyMore bond y (pos x) = IsWorthMore bond y x
DirtyMore bond y (negsuc _) = ⊤

-- the price at a yield, which is the worth less the accrued interest, is at least an amount
abbrev pub AtLeast : PeriodicPayments → ℤ → ℤ → Type 0
AtLeast bond y amount = DirtyAtLeast bond y (amount +ℤ pos bond.accrued)

-- the price at a yield is more than an amount
abbrev pub More : PeriodicPayments → ℤ → ℤ → Type 0
More bond y amount = DirtyMore bond y (amount +ℤ pos bond.accrued)
