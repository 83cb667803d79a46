use Rattle.muni_rule.proofs.SensitivityLemmas.{duration-within, duration-at_most, duration-zero}
use Rattle.muni_rule.proofs.laws.durations_are_within_years.Goals as goal

pub returns-clause-within : goal.returns-clause-within
returns-clause-within c = duration-within

pub returns-clause-at_most : goal.returns-clause-at_most
returns-clause-at_most c = duration-at_most

pub returns-clause-zero : goal.returns-clause-zero
returns-clause-zero c = duration-zero
