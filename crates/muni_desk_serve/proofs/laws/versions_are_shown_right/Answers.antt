use Rattle.muni_desk_serve.proofs.RightAnswerLemmas.{versions-shown-right}
use Rattle.muni_desk_serve.proofs.laws.versions_are_shown_right.Goals as goal

pub returns : goal.returns
returns c = versions-shown-right c.confirmed_figures_are_right.ensures
