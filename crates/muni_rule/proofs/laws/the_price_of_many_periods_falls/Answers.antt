use Rattle.muni_rule.specs.ManyPeriods.{to_come, AtLeast, More}
use Rattle.muni_rule.proofs.ManyPeriodFallLemmas.{many_periods-fall, at_least-decided, more-decided}
use Rattle.muni_rule.proofs.OutcomeLemmas.{one_outcome}
use Rattle.muni_rule.proofs.YieldLemmas.{printed_yield-same, printed_yield-rounded}
use Rattle.muni_rule.proofs.laws.the_price_of_many_periods_falls.Goals as goal

pub returns-clause-falls : goal.returns-clause-falls
returns-clause-falls c = many_periods-fall

pub returns-clause-one : goal.returns-clause-one
returns-clause-one c = λ series amount s t is many. printed_yield-same (many_periods-fall series amount is many) s t

pub returns-clause-rounded : goal.returns-clause-rounded
returns-clause-rounded c = λ series amount y t is many truncated. printed_yield-rounded (many_periods-fall series amount is many) y t truncated

pub returns-clause-outcome : goal.returns-clause-outcome
returns-clause-outcome c = λ series amount least greatest is many order.
    one_outcome least greatest (λ y. AtLeast (to_come series) y amount) (λ y. More (to_come series) y amount) (many_periods-fall series amount is many)
    (λ y. at_least-decided (to_come series) y amount) (λ y. more-decided (to_come series) y amount) order
