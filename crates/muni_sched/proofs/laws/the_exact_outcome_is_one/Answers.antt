use Rattle.muni_sched.proofs.OneExactLemmas.{candidate-one, list-one}
use Rattle.muni_sched.proofs.laws.the_exact_outcome_is_one.Goals as goal

pub returns-clause-candidate : goal.returns-clause-candidate
returns-clause-candidate c = candidate-one

pub returns-clause-list : goal.returns-clause-list
returns-clause-list c = list-one
