-- The answer for a truncated yield, as the code finds it in whole numbers from 0 up.
use Rattle.std.specs.Prelude.{ℕ, ◌+◌, ◌/◌, nat_le, if◌then◌else◌, pos, neg_ℤ}
use Rattle.muni_rule.specs.declared.basis.Basis.{Basis}
use Rattle.muni_rule.specs.Ranges.{one_period_prints}
use Rattle.muni_rule.specs.SinglePayment.{SinglePayment}
use Rattle.muni_rule.specs.declared.ranges.YieldRange.{YieldRange}
use Rattle.muni_simple.specs.declared.yields.SimpleYield.{SimpleYield}
use Rattle.muni_simple.specs.declared.yields.SimpleYield.TheVariants.{Print, Below, Above}

-- a payment of amounts from 0 up
abbrev pub natural_payment : ℕ → ℕ → ℕ → Basis → SinglePayment
natural_payment due accrued left basis =
    record { due = pos due; accrued = pos accrued; left = pos left; basis = basis }

-- the yields that are printed, from the least one, which is given by its magnitude
abbrev pub printed_from : ℕ → YieldRange
printed_from least = record { least = neg_ℤ (pos least); greatest = one_period_prints.greatest }

-- what is answered for a yield from 0 up
abbrev pub shown_above : ℕ → SimpleYield
shown_above y = if nat_le ((y + 5) / 10) 999_999 then Print (pos ((y + 5) / 10)) else Above

-- and for one from 0 down, by its magnitude and that of the least printed one
abbrev pub shown_below : ℕ → ℕ → SimpleYield
shown_below least y =
    if nat_le ((y + 5) / 10) least then Print (neg_ℤ (pos ((y + 5) / 10))) else Below
