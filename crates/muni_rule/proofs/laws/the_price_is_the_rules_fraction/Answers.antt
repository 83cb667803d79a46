use Rattle.muni_rule.proofs.ManyPeriodLemmas.{below_zero-reached, first_day-fraction, last_day-fraction, zero_yield-sum, par_bond-redemption}
use Rattle.muni_rule.proofs.laws.the_price_is_the_rules_fraction.Goals as goal

pub returns-clause-below_zero_is_reached : goal.returns-clause-below_zero_is_reached
returns-clause-below_zero_is_reached c = below_zero-reached

pub returns-clause-first_day : goal.returns-clause-first_day
returns-clause-first_day c = first_day-fraction

pub returns-clause-last_day : goal.returns-clause-last_day
returns-clause-last_day c = last_day-fraction

pub returns-clause-zero_yield : goal.returns-clause-zero_yield
returns-clause-zero_yield c = zero_yield-sum

pub returns-clause-par_bond : goal.returns-clause-par_bond
returns-clause-par_bond c = par_bond-redemption
