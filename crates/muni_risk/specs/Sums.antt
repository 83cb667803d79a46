-- The payments of a series, each times a weight. Sums of them are in 1/4096 of 2^-48 amounts, and with days
-- in 1/4096 of 2^-32 amounts, so that they fit.
use Rattle.std.specs.Prelude.{◌≡◌, ℕ, ◌+◌, ◌-◌, ◌*◌, ◌^◌, ◌<◌, ◌≤◌}
use Rattle.muni_rule.specs.Payments.{PaymentSeries, payment_at}
use Rattle.muni_multi.specs.Horner.{sum_low, sum_high}
use Rattle.muni_span.specs.Ends.{Ends}
use Rattle.muni_risk.specs.declared.sums.Sums.{Sums}
use Rattle.muni_risk.specs.declared.sums.Weight.{Weight}
use Rattle.muni_risk.specs.declared.sums.Weight.TheVariants.{One, Days, DaysTwice}

-- what a weight is for a payment so many days away
abbrev pub factor : Weight → ℕ → ℕ
factor One days = 2 ^ 48
factor Days days = days * 2 ^ 32
factor DaysTwice days = days * (days + 180) * 2 ^ 32

-- the days from the settlement to the payment at place k
abbrev pub days_of : PaymentSeries → ℕ → ℕ
days_of series k = 180 * k + (180 - series.a)

-- the payment at place k times its weight
abbrev pub weighted : Weight → PaymentSeries → ℕ → ℕ
weighted weight series k = payment_at series k * factor weight (days_of series k)

-- the first payment that is not 0 is at a place
pub record IsFirstPaid (series : PaymentSeries) (place : ℕ) : Type 0 where
  pub within : place < series.n
  pub none_before : (k : ℕ) → k < place → payment_at series k ≡ 0
  pub paid : 1 ≤ payment_at series place

-- the ends of a sum of the payments from a place on, each times a weight, on the day of the first of them, by the
-- ends of the discount factor of half a year
pub record IsSumFrom (weight : Weight) (series : PaymentSeries) (lo hi place : ℕ) (sum : Ends) : Type 0 where
  pub low : sum.lo ≡ sum_low (weighted weight series) lo (series.n - place) place
  pub high : sum.hi ≡ sum_high (weighted weight series) hi (series.n - place) place

-- by each weight
pub record AreSumsFrom (series : PaymentSeries) (lo hi place : ℕ) (sums : Sums) : Type 0 where
  pub one : IsSumFrom One series lo hi place sums.one
  pub days : IsSumFrom Days series lo hi place sums.days
  pub days_twice : IsSumFrom DaysTwice series lo hi place sums.days_twice
