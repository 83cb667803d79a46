-- What the ends of a worth tell of a price, and of the price that is printed.
use Rattle.std.specs.Prelude.{◌≡◌, ℕ, ◌+◌, ◌*◌, ◌<◌, nat_le, nat_lt, if◌then◌else◌}
use Rattle.muni_rule.specs.WorthEnds.{WorthEnds}
use Rattle.muni_rule.specs.declared.verdict.Verdict.{Verdict}
use Rattle.muni_rule.specs.declared.verdict.Verdict.TheVariants.{Yes, No, Unsure}

-- is the worth at least x
abbrev pub at_least_verdict : WorthEnds → ℕ → Verdict
at_least_verdict ends x =
    if nat_le (x * ends.unit) ends.lo then Yes
    else (if nat_lt ends.hi (x * ends.unit) then No
    else Unsure)

-- is the worth more than x
abbrev pub more_verdict : WorthEnds → ℕ → Verdict
more_verdict ends x =
    if nat_lt (x * ends.unit) ends.lo then Yes
    else (if nat_le ends.hi (x * ends.unit) then No
    else Unsure)

-- the price with the accrued interest that t thousandths of a dollar come to
abbrev pub dirty_thousandths : ℕ → ℕ → ℕ
dirty_thousandths accrued t = 360_000_000 * t + accrued

-- No price is printed, since the verdicts on whole thousandths leave it open whether the exact one
-- reaches b, the least that they leave open.
pub record IsUndecidedAt (verdict : ℕ → Verdict) (b : ℕ) : Type 0 where
  pub unsure : verdict b ≡ Unsure
  pub least : (t : ℕ) → t < b → ¬ (verdict t ≡ Unsure)
  pub not_below_zero : ¬ (verdict 0 ≡ No)
  pub not_printed : (t : ℕ) → verdict t ≡ Yes → ¬ (verdict (t + 1) ≡ No)
