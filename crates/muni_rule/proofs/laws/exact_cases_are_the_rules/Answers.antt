use Rattle.muni_rule.proofs.ManyPeriodLemmas.{numbers-tell, par_yield-coupon, exact-worth, open-enclosed}
use Rattle.muni_rule.proofs.laws.exact_cases_are_the_rules.Goals as goal

pub returns-clause-numbers : goal.returns-clause-numbers
returns-clause-numbers c = numbers-tell

pub returns-clause-coupon : goal.returns-clause-coupon
returns-clause-coupon c = par_yield-coupon

pub returns-clause-exact : goal.returns-clause-exact
returns-clause-exact c = exact-worth

pub returns-clause-others : goal.returns-clause-others
returns-clause-others c = open-enclosed
