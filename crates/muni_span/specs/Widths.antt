-- How wide a power may be.
use Rattle.std.specs.Prelude.{ℕ, ◌+◌, ◌-◌, ◌/◌, ◌^◌, max}

-- the least whole number that is at least 1 and not below an end in units of 2^-60
abbrev pub whole_above : ℕ → ℕ
whole_above hi = max 1 ((hi + (2 ^ 60 - 1)) / 2 ^ 60)
