-- What an outcome says of the yield at a price.
-- Printed yields are in thousandths of a percent.
use Rattle.std.specs.Prelude.{◌≡◌, ℕ, ◌*◌, ◌≤◌, ◌⊎◌, ⊤, ℤ, pos, negsuc, ◌+ℤ◌, ◌≤ℤ◌}
use Rattle.muni_rule.specs.Doubt.{IsDoubtful}
use Rattle.muni_rule.specs.ManyPeriods.{to_come, AtLeast, More}
use Rattle.muni_rule.specs.Outcomes.{IsBelow, IsAbove, IsPrint}
use Rattle.muni_rule.specs.Payments.{PaymentSeries, IsSeries}
use Rattle.muni_rule.specs.PrintedYield.{boundary, Reached}
use Rattle.muni_rule.specs.Ranges.{IsWithin, many_periods_prints}
use Rattle.muni_rule.specs.declared.verdict.Verdict.{Verdict}
use Rattle.muni_rule.specs.declared.verdict.Verdict.TheVariants as verdict
use Rattle.muni_yield.specs.declared.outcome.Outcome.{Outcome}
use Rattle.muni_yield.specs.declared.outcome.Outcome.TheVariants.{Print, Below, Above, Unsure}

-- the least yield that is printed, -5 percent, and the greatest, 100 percent
abbrev pub least_printed : ℤ
least_printed = many_periods_prints.least

abbrev pub greatest_printed : ℤ
greatest_printed = many_periods_prints.greatest

-- a yield is printed, or leaves the range, by the exact price
abbrev pub IsYieldOutcome : (AtLeast More : ℤ → Type 0) → Outcome → Type 0
IsYieldOutcome AtLeast More (Print t) = IsPrint least_printed greatest_printed AtLeast More t
IsYieldOutcome AtLeast More Below = IsBelow least_printed AtLeast More
IsYieldOutcome AtLeast More Above = IsAbove greatest_printed AtLeast More
IsYieldOutcome AtLeast More (Unsure lower) = ⊤

-- it is by the exact price of payments, against the given one
abbrev pub IsExactOutcome : PaymentSeries → ℕ → Outcome → Type 0
IsExactOutcome series price outcome =
    IsYieldOutcome (λ y. AtLeast (to_come series) y (pos (360_000 * price)))
    (λ y. More (to_come series) y (pos (360_000 * price))) outcome

-- At the boundary above a yield the exact price is within 10^-9 dollars of the given one, in no
-- exact case, and the yield itself is reached, unless it is the one below the range.
pub record IsDoubtfulAbove (series : PaymentSeries) (price : ℕ) (lower : ℤ) : Type 0 where
  pub doubtful : IsDoubtful series (boundary (lower +ℤ pos 1)) (pos (360_000 * price))
  pub reached : (lower ≡ negsuc 5_000)
      ⊎ Reached (λ y. AtLeast (to_come series) y (pos (360_000 * price)))
      (λ y. More (to_come series) y (pos (360_000 * price))) lower

-- an outcome is unsure only in doubt
abbrev pub IsDoubtfulOutcome : PaymentSeries → ℕ → Outcome → Type 0
IsDoubtfulOutcome series price (Unsure lower) = IsDoubtfulAbove series price lower
IsDoubtfulOutcome series price (Print t) = ⊤
IsDoubtfulOutcome series price Below = ⊤
IsDoubtfulOutcome series price Above = ⊤

-- a printed yield was answered by yes and the next one by no, and it is in the range
pub record IsPrintVerdict (said : ℤ → Verdict) (t : ℤ) : Type 0 where
  pub reached : said t ≡ verdict.Yes
  pub next_not_reached : said (t +ℤ pos 1) ≡ verdict.No
  pub least : least_printed ≤ℤ t
  pub most : t ≤ℤ greatest_printed

-- the verdict above a yield is open, and the yield itself was answered by yes if it was asked
pub record IsUnsureVerdict (said : ℤ → Verdict) (lower : ℤ) : Type 0 where
  pub unsure : said (lower +ℤ pos 1) ≡ verdict.Unsure
  pub reached : (lower ≡ negsuc 5_000) ⊎ (said lower ≡ verdict.Yes)
  pub least : negsuc 5_000 ≤ℤ lower
  pub most : lower ≤ℤ greatest_printed

-- what the verdicts on printed yields leave to answer
abbrev pub IsVerdictOutcome : (ℤ → Verdict) → Outcome → Type 0
IsVerdictOutcome said (Print t) = IsPrintVerdict said t
IsVerdictOutcome said Below = said least_printed ≡ verdict.No
IsVerdictOutcome said Above = said (greatest_printed +ℤ pos 1) ≡ verdict.Yes
IsVerdictOutcome said (Unsure lower) = IsUnsureVerdict said lower

-- a printed yield is in the range, and so is one that is reached and unsure, or it is just below
abbrev pub IsOutcomeInRange : Outcome → Type 0
IsOutcomeInRange (Unsure lower) = (negsuc 5_000 ≤ℤ lower) × (lower ≤ℤ greatest_printed)
IsOutcomeInRange (Print t) = IsWithin many_periods_prints t
IsOutcomeInRange Below = ⊤
IsOutcomeInRange Above = ⊤

-- an outcome that is not unsure
abbrev pub IsSure : Outcome → Type 0
IsSure (Print t) = ⊤
IsSure Below = ⊤
IsSure Above = ⊤
IsSure (Unsure lower) = ⊥

-- two outcomes that are sure and right for a price are the same
abbrev pub OneYieldIsRight : Type 0
OneYieldIsRight =
    (series : PaymentSeries) (amount : ℤ) (one other : Outcome)
    → IsSeries series → 2 ≤ series.n → IsSure one → IsSure other
    → IsYieldOutcome (λ y. AtLeast (to_come series) y amount)
    (λ y. More (to_come series) y amount) one
    → IsYieldOutcome (λ y. AtLeast (to_come series) y amount)
    (λ y. More (to_come series) y amount) other
    → one ≡ other
