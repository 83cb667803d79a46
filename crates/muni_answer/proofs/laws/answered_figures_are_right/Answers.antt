use Rattle.muni_answer.proofs.RightLemmas.{answered-right}
use Rattle.muni_answer.proofs.laws.answered_figures_are_right.Goals as goal

pub returns : goal.returns
returns c = answered-right
