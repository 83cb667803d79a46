-- A search as it is held.
use Rattle.std.specs.Prelude.{ℕ}
use Rattle.muni_rule.specs.Payments.{PaymentSeries}
use Rattle.muni_rule.specs.declared.verdict.Verdict.{Verdict}
use Rattle.muni_yield.specs.Bracket.{YieldBracket}

abbrev pub bracket : PaymentSeries → ℕ → ℕ → ℕ → Verdict → ℕ → YieldBracket
bracket series price low high at_high halvings = record {
  series = series;
  price = price;
  low = low;
  high = high;
  at_high = at_high;
  halvings = halvings;
}
