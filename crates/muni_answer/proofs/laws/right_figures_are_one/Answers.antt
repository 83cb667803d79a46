use Rattle.muni_answer.proofs.OneFigureLemmas.{right-one, answered-one, right-outcomes}
use Rattle.muni_answer.proofs.laws.right_figures_are_one.Goals as goal

pub returns-clause-one : goal.returns-clause-one
returns-clause-one c = right-one

pub returns-clause-answered : goal.returns-clause-answered
returns-clause-answered c = answered-one

pub returns-clause-outcomes : goal.returns-clause-outcomes
returns-clause-outcomes c = right-outcomes
