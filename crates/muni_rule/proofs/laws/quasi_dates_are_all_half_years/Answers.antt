use Rattle.std.proofs.Common.{arith}
use Rattle.muni_rule.proofs.QuasiDateLawLemmas.{length-quasi_dates, item-is_quasi, quasi-contained, quasi_dates-rise, test-contained, contained-test}
use Rattle.muni_rule.proofs.laws.quasi_dates_are_all_half_years.Goals as goal

pub returns-clause-all : goal.returns-clause-all
returns-clause-all c = λ anchor date. (
  λ contained. let count = length-quasi_dates anchor in item-is_quasi anchor date contained.0 (omega arith) contained.2,
  λ there. quasi-contained anchor date there.0 there.1,
)

pub returns-clause-rising : goal.returns-clause-rising
returns-clause-rising c = quasi_dates-rise

pub returns-clause-test : goal.returns-clause-test
returns-clause-test c = λ anchor date in_desk. (test-contained anchor date in_desk, contained-test anchor date)
