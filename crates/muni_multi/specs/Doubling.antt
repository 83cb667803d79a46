-- The ends of a sum by doubling: 2m regular payments are worth m of them, and the same again
-- discounted by m half-years. Sums are in 1/4096 of an amount, factors in units of 2^-60.
use Rattle.std.specs.Prelude.{ℕ, suc, zero, ◌+◌, ◌-◌, ◌*◌, ◌/◌, ◌%◌, ◌^◌, ℤ, nat_le, nat_eq, if◌then◌else◌}
use Rattle.muni_rule.specs.Payments.{PaymentSeries}
use Rattle.muni_rule.specs.WorthEnds.{WorthEnds, enclosure_ends}
use Rattle.muni_span.specs.Powers.{power_end}
use Rattle.muni_multi.specs.LastStep.{discount_low, discount_high, settled_low, settled_high}

-- an amount times a factor, rounded down after a carry is added
abbrev pub scaled_end : ℕ → ℕ → ℕ → ℕ
scaled_end carry amount factor = (amount * factor + carry) / 2 ^ 60

-- twice as many payments as those of an end, if there are m in all
abbrev pub doubled_end : ℕ → ℕ → ℕ → ℕ → ℕ
doubled_end carry factor m half = half + scaled_end carry half (power_end carry factor (m / 2))

-- m payments of an amount from half as many, and where m is odd one more in front
abbrev pub level_from_half : ℕ → ℕ → ℕ → ℕ → ℕ → ℕ
level_from_half carry amount factor m half =
    if nat_eq (m % 2) 0 then doubled_end carry factor m half
    else scaled_end carry (doubled_end carry factor m half) factor + 4096 * amount

-- m payments of an amount, half a year apart, on the day of the first, if m has at most f + 1
-- binary places
unfoldable pub level_by : ℕ → ℕ → ℕ → ℕ → ℕ → ℕ
level_by carry amount factor zero m = 4096 * amount
level_by carry amount factor (suc f) m =
    if nat_le m 1 then 4096 * amount
    else level_from_half carry amount factor m (level_by carry amount factor f (m / 2))

-- the same for fewer than 128
unfoldable pub level_end : ℕ → ℕ → ℕ → ℕ → ℕ
level_end carry amount factor m =
    if nat_eq m 0 then 0 else level_by carry amount factor 6 m

-- the first interest, the m regular payments after it and the redemption, on the day of that interest
abbrev pub paid_end : ℕ → PaymentSeries → ℕ → ℕ → ℕ
paid_end carry series factor m =
    scaled_end carry (level_end carry series.regular factor m) factor + 4096 * series.first
    + scaled_end carry (4096 * series.redemption) (power_end carry factor m)

-- and on the day of the first payment
unfoldable pub doubling_end : ℕ → PaymentSeries → ℕ → ℕ
doubling_end carry series factor =
    scaled_end carry (paid_end carry series factor (series.n - 1 - series.skip))
    (power_end carry factor series.skip)

-- the worth at the settlement
unfoldable pub doubling_ends : PaymentSeries → ℤ → WorthEnds
doubling_ends series y =
    enclosure_ends (settled_low (doubling_end 0 series (discount_low y)) y series.a)
    (settled_high (doubling_end (2 ^ 60 - 1) series (discount_high y)) y series.a)
