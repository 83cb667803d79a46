use Rattle.muni_sched.proofs.OneRightLemmas.{one-right}
use Rattle.muni_sched.proofs.laws.one_answer_is_right.Goals as goal

pub returns : goal.returns
returns c = one-right
