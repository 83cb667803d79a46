-- The verdicts at places that are known without a question.
use Rattle.std.specs.Prelude.{◌≡◌, ℕ, ◌+◌, ◌*◌, ◌≤◌, nat_le, nat_lt, if◌then◌else◌, Option, Some, None, ℤ}
use Rattle.muni_rule.specs.ManyPeriods.{to_come, sum_to}
use Rattle.muni_rule.specs.Payments.{PaymentSeries, payment_at}
use Rattle.muni_rule.specs.Ranges.{IsManyPeriodsBoundary}
use Rattle.muni_rule.specs.WorthEnds.{WorthEnds, HoldsWorth, IsNarrow}
use Rattle.muni_rule.specs.declared.verdict.Verdict.{Verdict}
use Rattle.muni_rule.specs.declared.verdict.Verdict.TheVariants.{Yes, No, Unsure}
use Rattle.muni_multi.specs.declared.verdicts.Reading.{Reading}
use Rattle.muni_yield.specs.Bracket.{start_of}
use Rattle.muni_yield.specs.declared.window.Window.{Window}
use Rattle.muni_yield.specs.declared.guided.GuidedSearch.{GuidedSearch}

-- up to a place every verdict is yes, and from another on every verdict is no
pub record IsWindow (verdict : ℕ → Verdict) (window : Window) : Type 0 where
  pub most : window.yes ≤ 105_002
  pub some : 1 ≤ window.no
  pub yes : (place : ℕ) → 1 ≤ place → place ≤ window.yes → verdict place ≡ Yes
  pub no : (place : ℕ) → window.no ≤ place → place ≤ 105_002 → verdict place ≡ No

-- the window of a search is that of its payments and its price
abbrev pub IsGuided : (PaymentSeries → ℕ → ℕ → Verdict) → GuidedSearch → Type 0
IsGuided verdicts search =
    IsWindow (verdicts search.bracket.series search.bracket.price) search.window

-- the verdict at a place, if it is known
abbrev pub known_at : Window → ℕ → Option Verdict
known_at window place =
    if nat_le place window.yes then Some Yes
    else (if nat_le window.no place then Some No
    else None)

abbrev pub window_at : ℕ → ℕ → Window
window_at reached missed = record { yes = reached; no = missed }

-- a clear verdict moves an end of the window to its place
abbrev pub learnt_of : Verdict → ℕ → Window → Window
learnt_of Yes place window = window_at place window.no
learnt_of No place window = window_at window.yes place
learnt_of Unsure place window = window

abbrev pub learnt : ℕ → Reading → Window → Window
learnt place reading window =
    if reading.clear then learnt_of reading.verdict place window else window

-- At a yield of zero, which is above the boundary of place 5,001 and below that of the next one, the
-- price with the accrued interest is the sum of the payments. If it is 10^-9 dollars away from the
-- given one, all places on one side are known.
abbrev pub window_of_sum : ℕ → ℕ → Window
window_of_sum sum dirty =
    if nat_le (dirty + 360) sum then window_at 5_001 105_003
    else (if nat_lt (sum + 360) dirty then window_at 0 5_002
    else window_at 0 105_003)

abbrev pub window_first : PaymentSeries → ℕ → Window
window_first series price =
    window_of_sum (sum_to (payment_at series) series.n) (360_000 * price + series.accrued)

-- a search before its first question
abbrev pub guided_start : PaymentSeries → ℕ → GuidedSearch
guided_start series price = record {
  bracket = start_of series price;
  window = window_first series price;
}

-- the same if nothing is known but that it reaches a place
abbrev pub guided_reached : PaymentSeries → ℕ → ℕ → GuidedSearch
guided_reached series price place = record {
  bracket = start_of series price;
  window = window_at place 105_003;
}

-- two ends enclose the worth narrowly at every yield that may be asked for
pub record IsEnclosedAt (series : PaymentSeries) (y : ℤ) (ends : WorthEnds) : Type 0 where
  pub holds : HoldsWorth (to_come series) y ends
  pub narrow : IsNarrow ends

abbrev pub AreNarrow : PaymentSeries → (ℤ → WorthEnds) → Type 0
AreNarrow series ends = (y : ℤ) → IsManyPeriodsBoundary y → IsEnclosedAt series y (ends y)
