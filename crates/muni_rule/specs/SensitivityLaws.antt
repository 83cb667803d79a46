-- How large a duration is, and that of payments without interest.
use Rattle.std.specs.Prelude.{◌≡◌, ℕ, ◌+◌, ◌-◌, ◌*◌, ◌<◌, ◌≤◌, length, slice_index_or, ℤ, pos}
use Rattle.muni_rule.specs.ManyPeriods.{PeriodicPayments, discount_divisor}
use Rattle.muni_rule.specs.Sensitivities.{days_to, duration}

-- the days from the settlement to the redemption
abbrev pub days_left : PeriodicPayments → ℕ
days_left bond = days_to bond (length bond.payments - 1)

-- with h = 1 + Y/2 the duration is at most the years to redemption over h
abbrev pub DurationIsWithinYears : Type 0
DurationIsWithinYears =
    (bond : PeriodicPayments) (y : ℤ)
    → (duration bond y).top * (360 * discount_divisor y)
    ≤ days_left bond * 2_000_000 * (duration bond y).bottom

-- so at a yield that is not below zero it is at most the years to redemption
abbrev pub DurationIsAtMostYears : Type 0
DurationIsAtMostYears =
    (bond : PeriodicPayments) (y : ℕ)
    → (duration bond (pos y)).top * 360 ≤ days_left bond * (duration bond (pos y)).bottom

-- a bond that pays nothing before its redemption
abbrev pub IsZero : PeriodicPayments → Type 0
IsZero bond =
    (k : ℕ) → k + 1 < length bond.payments → slice_index_or bond.payments k 0 ≡ 0

-- of it the duration is the years to redemption over h
abbrev pub DurationOfZeroIsYears : Type 0
DurationOfZeroIsYears =
    (bond : PeriodicPayments) (y : ℤ) → IsZero bond
    → (duration bond y).top * (360 * discount_divisor y)
    ≡ days_left bond * 2_000_000 * (duration bond y).bottom
