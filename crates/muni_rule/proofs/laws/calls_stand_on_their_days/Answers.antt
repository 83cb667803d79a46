use Rattle.muni_rule.proofs.RedemptionLemmas.{plain-calls, each-date}
use Rattle.muni_rule.proofs.laws.calls_stand_on_their_days.Goals as goal

pub returns-clause-plain : goal.returns-clause-plain
returns-clause-plain c = plain-calls

pub returns-clause-each_date : goal.returns-clause-each_date
returns-clause-each_date c = each-date
