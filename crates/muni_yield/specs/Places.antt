-- Places among the printed yields, and what the ends of a worth tell at each.
-- A place counts thousandths of a percent from -5.001.
use Rattle.std.specs.Prelude.{ℕ, zero, suc, ◌+◌, ◌*◌, ℤ, pos, negsuc, ◌-ℤ◌}
use Rattle.muni_rule.specs.Payments.{PaymentSeries}
use Rattle.muni_rule.specs.PrintedYield.{boundary}
use Rattle.muni_rule.specs.Verdicts.{at_least_verdict, more_verdict}
use Rattle.muni_rule.specs.WorthEnds.{WorthEnds, ends_of}
use Rattle.muni_rule.specs.declared.verdict.Verdict.{Verdict}

-- the yield at a place
abbrev pub yield_at : ℕ → ℤ
yield_at place = pos place -ℤ pos 5_001

-- Whether the yield is printed as t or more, by the ends of the worth at its boundary: there the
-- price is at least the given one for t above zero, and more than it for the others.
abbrev pub reached_verdict : (ℤ → WorthEnds) → ℕ → ℤ → Verdict
reached_verdict ends amount (pos zero) = more_verdict (ends (boundary (pos zero))) amount
reached_verdict ends amount (pos (suc less)) =
    at_least_verdict (ends (boundary (pos (suc less)))) amount
reached_verdict ends amount (negsuc less) = more_verdict (ends (boundary (negsuc less))) amount

-- the same for the payments of a series and a price, by the two ends that an encloser gives
abbrev pub yield_verdict : (ℤ → WorthEnds) → PaymentSeries → ℕ → ℤ → Verdict
yield_verdict ends series price t =
    reached_verdict (λ y. ends_of series y (ends y))
    (360_000 * price + series.accrued) t

-- and at a place
abbrev pub place_verdict : (PaymentSeries → ℤ → WorthEnds) → PaymentSeries → ℕ → ℕ → Verdict
place_verdict ends series price place =
    yield_verdict (ends series) series price (yield_at place)

-- the ends that the verdict at a place is read off
abbrev pub ends_at : (PaymentSeries → ℤ → WorthEnds) → PaymentSeries → ℕ → WorthEnds
ends_at ends series place =
    ends_of series (boundary (yield_at place)) (ends series (boundary (yield_at place)))
