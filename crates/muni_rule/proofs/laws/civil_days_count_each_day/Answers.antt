use Rattle.muni_rule.proofs.CivilDayLemmas.{next_day-one, civil_days-add, civil_days-rise}
use Rattle.muni_rule.proofs.laws.civil_days_count_each_day.Goals as goal

pub returns-clause-next : goal.returns-clause-next
returns-clause-next c = next_day-one

pub returns-clause-add : goal.returns-clause-add
returns-clause-add c = civil_days-add

pub returns-clause-rise : goal.returns-clause-rise
returns-clause-rise c = civil_days-rise
