-- The ends of a power of fractions in units of 2^-60, by the way of squaring. They fix which ends a
-- power has, so that one enclosure belongs to a series and a yield. No rule of the trade hangs on
-- them: that the ends enclose the power is said apart, and any ends that do would serve.
use Rattle.std.specs.Prelude.{ℕ, suc, zero, ◌+◌, ◌-◌, ◌*◌, ◌/◌, ◌%◌, ◌^◌, min, nat_le, nat_eq, if◌then◌else◌}

-- a product, rounded down after a carry is added, and at most the greatest end there is
abbrev pub product_end : ℕ → ℕ → ℕ → ℕ
product_end carry a b = min ((a * b + carry) / 2 ^ 60) (2 ^ 64 - 1)

-- a power from the power of half its exponent: that one's square, and if the exponent is odd
-- the square times the base
abbrev pub power_from_half : (ℕ → ℕ → ℕ) → ℕ → ℕ → ℕ → ℕ
power_from_half times x k half =
    if nat_eq (k % 2) 0 then times half half else times (times half half) x

-- a power by squaring, if the exponent has at most f + 1 binary places
unfoldable pub power_by : (ℕ → ℕ → ℕ) → ℕ → ℕ → ℕ → ℕ
power_by times x zero k = x
power_by times x (suc f) k =
    if nat_le k 1 then x else power_from_half times x k (power_by times x f (k / 2))

-- a power whose products are rounded with a carry, for an exponent below 256
unfoldable pub power_end : ℕ → ℕ → ℕ → ℕ
power_end carry x k = if nat_eq k 0 then 2 ^ 60 else power_by (product_end carry) x 7 k

-- the lower end: every product is rounded down
abbrev pub power_low : ℕ → ℕ → ℕ
power_low x k = power_end 0 x k

-- the upper end: every product is rounded up
abbrev pub power_high : ℕ → ℕ → ℕ
power_high x k = power_end (2 ^ 60 - 1) x k
