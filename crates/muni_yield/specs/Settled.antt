-- The outcome of a search.
use Rattle.std.specs.Prelude.{◌≡◌, ℕ, ◌+◌, ◌≤◌, ◌==◌, if◌then◌else◌, Option, Some, None, ℤ}
use Rattle.muni_rule.specs.Payments.{PaymentSeries}
use Rattle.muni_rule.specs.declared.verdict.Verdict.{Verdict}
use Rattle.muni_rule.specs.declared.verdict.Verdict.TheVariants as verdict
use Rattle.muni_yield.specs.Bracket.{YieldBracket, start_of, is_settled, run}
use Rattle.muni_rule.specs.WorthEnds.{WorthEnds}
use Rattle.muni_yield.specs.Outcome.{IsVerdictOutcome}
use Rattle.muni_yield.specs.Places.{yield_at, yield_verdict, place_verdict}
use Rattle.muni_yield.specs.declared.outcome.Outcome.{Outcome}
use Rattle.muni_yield.specs.declared.outcome.Outcome.TheVariants.{Print, Below, Above, Unsure}

-- the outcome if the lower place is reached and the next one is not
abbrev pub printed_as : ℕ → Outcome
printed_as low =
    if low == 0 then Below else (if low == 105_002 then Above else Print (yield_at low))

-- and if the next one was answered so
abbrev pub outcome_at : ℕ → Verdict → Outcome
outcome_at low verdict.Unsure = Unsure (yield_at low)
outcome_at low verdict.Yes = printed_as low
outcome_at low verdict.No = printed_as low

abbrev pub outcome_of : YieldBracket → Outcome
outcome_of bracket = outcome_at bracket.low bracket.at_high

-- the outcome, once the search is settled
abbrev pub settled_as : YieldBracket → Option Outcome
settled_as bracket = if is_settled bracket then Some (outcome_of bracket) else None

-- the outcome for a price, when all questions were asked
unfoldable pub final_of : (PaymentSeries → ℕ → ℕ → Verdict) → PaymentSeries → ℕ → Outcome
final_of verdicts series price = outcome_of (run 19 verdicts (start_of series price))

-- the outcome that the verdicts by these ends leave, in the order of the questions
pub record IsSearchOutcome
    (ends : PaymentSeries → ℤ → WorthEnds) (series : PaymentSeries) (price : ℕ)
    (outcome : Outcome) : Type 0 where
  pub verdicts : IsVerdictOutcome (yield_verdict (ends series) series price) outcome
  pub last : outcome ≡ final_of (place_verdict ends) series price

-- a count rises by the halvings of the search, of which there are at most 19
pub record CountsHalvings
    (verdicts : PaymentSeries → ℕ → ℕ → Verdict) (series : PaymentSeries) (price : ℕ)
    (before now : ℕ) : Type 0 where
  pub counted : now ≡ before + (run 19 verdicts (start_of series price)).halvings
  pub few : now ≤ before + 19
