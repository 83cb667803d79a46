-- The ends of the 180th root of a fraction, in units of 2^-60, by the powers of the crate. As with a
-- power, they fix which ends a root has, and no rule of the trade hangs on them.
use Rattle.std.specs.Prelude.{ℕ, Bool, suc, zero, ◌+◌, ◌-◌, ◌^◌, ◌<◌, ◌≤◌, nat_le, if◌then◌else◌}
use Rattle.muni_span.specs.Powers.{power_end}

-- the greatest number up to n that passes a test, and 0 if none does
unfoldable pub greatest_where : (ℕ → Bool) → ℕ → ℕ
greatest_where test zero = zero
greatest_where test (suc n) = if test (suc n) then suc n else greatest_where test n

-- the greatest number whose 180th power, rounded with a carry, is at most v, among the numbers up
-- to 2^60 + 2^50, which is more than the root of 1.03
unfoldable pub root_end : ℕ → ℕ → ℕ
root_end carry v = greatest_where (λ x. nat_le (power_end carry x 180) v) (2 ^ 60 + 2 ^ 50)

-- the lower end: the greatest number whose power, rounded up, is at most v
abbrev pub root_low : ℕ → ℕ
root_low v = root_end (2 ^ 60 - 1) v

-- the upper end: the least number whose power, rounded down, is at least v; all up to the number
-- before it have powers below v
abbrev pub root_high : ℕ → ℕ
root_high v = root_end 0 (v - 1) + 1

-- a bracket of a root's end: the power of the lower number is at most v, that of the upper is more
pub record IsRootBracket (carry v low high : ℕ) : Type 0 where
  pub ordered : low < high
  pub within : high ≤ 2 ^ 60 + 2 ^ 50
  pub under : power_end carry low 180 ≤ v
  pub over : v < power_end carry high 180
