use Rattle.muni_desk_serve.proofs.RightAnswerLemmas.{answers-right}
use Rattle.muni_desk_serve.proofs.laws.answers_are_right.Goals as goal

pub returns : goal.returns
returns c = answers-right c.confirmed_figures_are_right.ensures
