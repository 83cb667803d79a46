-- The search for a yield between two places.
use Rattle.std.specs.Prelude.{◌≡◌, ℕ, zero, suc, ◌+◌, ◌-◌, ◌/◌, ◌^◌, ◌<◌, ◌≤◌, ◌==◌, ◌⊎◌, Bool, if◌then◌else◌}
use Rattle.muni_rule.specs.Payments.{PaymentSeries}
use Rattle.muni_rule.specs.declared.verdict.Verdict.{Verdict}
use Rattle.muni_rule.specs.declared.verdict.Verdict.TheVariants.{Yes, No, Unsure}

-- the payments and the price, the two places, what was answered at the higher one, and how often it
-- was halved
pub record YieldBracket : Type 0 where
  pub series : PaymentSeries
  pub price : ℕ
  pub low : ℕ
  pub high : ℕ
  pub at_high : Verdict
  pub halvings : ℕ

-- before the first question the places are those next to the range, at which nothing is asked
abbrev pub start_of : PaymentSeries → ℕ → YieldBracket
start_of series price = record {
  series = series;
  price = price;
  low = 0;
  high = 105_003;
  at_high = No;
  halvings = 0;
}

-- no place is left between
abbrev pub is_settled : YieldBracket → Bool
is_settled bracket = bracket.high == bracket.low + 1

-- the place that is asked next: the first of the range, then the one past its last, then the middle
abbrev pub question : YieldBracket → ℕ
question bracket =
    if bracket.low == 0 then 1
    else (if bracket.high == 105_003 then 105_002
    else bracket.low + (bracket.high - bracket.low) / 2)

-- yes raises the lower place to the one that was asked, and any other answer lowers the higher one
abbrev pub answered : Verdict → ℕ → YieldBracket → YieldBracket
answered Yes place bracket = record {
  series = bracket.series;
  price = bracket.price;
  low = place;
  high = bracket.high;
  at_high = bracket.at_high;
  halvings = bracket.halvings + 1;
}
answered No place bracket = record {
  series = bracket.series;
  price = bracket.price;
  low = bracket.low;
  high = place;
  at_high = No;
  halvings = bracket.halvings + 1;
}
answered Unsure place bracket = record {
  series = bracket.series;
  price = bracket.price;
  low = bracket.low;
  high = place;
  at_high = Unsure;
  halvings = bracket.halvings + 1;
}

-- one question, if the verdicts for each series, price and place are known
abbrev pub halved : (PaymentSeries → ℕ → ℕ → Verdict) → YieldBracket → YieldBracket
halved verdicts bracket =
    answered (verdicts bracket.series bracket.price (question bracket)) (question bracket) bracket

-- at most so many questions, up to the one that settles
unfoldable pub run : ℕ → (PaymentSeries → ℕ → ℕ → Verdict) → YieldBracket → YieldBracket
run zero verdicts bracket = bracket
run (suc count) verdicts bracket =
    if is_settled bracket then bracket else run count verdicts (halved verdicts bracket)

-- what holds after every number of questions
pub record IsBracket (bracket : YieldBracket) : Type 0 where
  pub many : 2 ≤ bracket.series.n
  pub price : 0 < bracket.price
  pub apart : bracket.low < bracket.high
  pub top : bracket.high ≤ 105_003
  pub first : bracket.low ≡ 0 → bracket.low + 1 < bracket.high
      → (bracket.high ≡ 105_003) × (bracket.halvings ≡ 0)
  pub second : 1 ≤ bracket.low → bracket.high ≡ 105_003 → bracket.low + 1 < bracket.high
      → (bracket.low ≡ 1) × (bracket.halvings ≡ 1)
  pub later : 1 ≤ bracket.low → bracket.high ≤ 105_002
      → bracket.high ≤ bracket.low + 2 ^ (19 - bracket.halvings)
  pub few : bracket.halvings ≤ 19

-- a place that may be asked next
pub record IsQuestion (bracket : YieldBracket) (place : ℕ) : Type 0 where
  pub above : bracket.low < place
  pub below : place < bracket.high
  pub most : place ≤ 105_002
  pub first : bracket.low ≡ 0 → place ≡ 1
  pub second : 1 ≤ bracket.low → bracket.high ≡ 105_003 → place ≡ 105_002
  pub near_low : 1 ≤ bracket.low → bracket.high ≤ 105_002
      → place ≤ bracket.low + 2 ^ (19 - (bracket.halvings + 1))
  pub near_high : 1 ≤ bracket.low → bracket.high ≤ 105_002
      → bracket.high ≤ place + 2 ^ (19 - (bracket.halvings + 1))

-- the higher place was asked, and not answered by yes
pub record IsMissed (verdict : ℕ → Verdict) (high : ℕ) (at_high : Verdict) : Type 0 where
  pub most : high ≤ 105_002
  pub same : verdict high ≡ at_high
  pub not_reached : ¬ (at_high ≡ Yes)

-- as far as the two places were asked, the lower was answered by yes and the higher was not
pub record IsVerdictKept (verdict : ℕ → Verdict) (bracket : YieldBracket) : Type 0 where
  pub low : (bracket.low ≡ 0) ⊎ (verdict bracket.low ≡ Yes)
  pub high : ((bracket.high ≡ 105_003) × (bracket.at_high ≡ No))
      ⊎ IsMissed verdict bracket.high bracket.at_high

-- one halving by these verdicts, which keeps what was answered
pub record HalvesBy (verdicts : PaymentSeries → ℕ → ℕ → Verdict) (old new : YieldBracket) : Type 0 where
  pub halved : new ≡ halved verdicts old
  pub count : new.halvings ≡ old.halvings + 1
  pub answered : IsVerdictKept (verdicts old.series old.price) old
      → IsVerdictKept (verdicts old.series old.price) new
