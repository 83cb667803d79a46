-- Seven numbers as a series of payments.
use Rattle.std.specs.Prelude.{ℕ}
use Rattle.muni_rule.specs.Payments.{PaymentSeries}

-- the series with these numbers
abbrev pub series : ℕ → ℕ → ℕ → ℕ → ℕ → ℕ → ℕ → PaymentSeries
series n skip first regular redemption accrued a = record {
  n = n;
  skip = skip;
  first = first;
  regular = regular;
  redemption = redemption;
  accrued = accrued;
  a = a;
}
