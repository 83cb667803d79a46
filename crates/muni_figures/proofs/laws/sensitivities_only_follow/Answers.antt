use Rattle.muni_keep.specs.Tables.{issue_at}
use Rattle.muni_figures.proofs.FollowLemmas.{line-follows}
use Rattle.muni_figures.proofs.laws.sensitivities_only_follow.Goals as goal

pub returns : goal.returns
returns c = λ ends tables place row said plain is also. line-follows ends (issue_at tables) place row said plain is also
