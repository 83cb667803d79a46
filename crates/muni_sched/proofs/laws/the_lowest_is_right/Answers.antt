use Rattle.muni_sched.specs.GivenFigure.{kind_of, IsInDoubt}
use Rattle.muni_sched.specs.Figures.{least_unsure}
use Rattle.muni_sched.proofs.SoundLemmas.{sound_right}
use Rattle.muni_sched.proofs.laws.the_lowest_is_right.Goals as goal

pub returns-clause-right : goal.returns-clause-right
returns-clause-right c = λ given list. sound_right (least_unsure (kind_of given)) (IsInDoubt given list)
