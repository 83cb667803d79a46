use Rattle.muni_sched.proofs.OneAnswerLemmas.{one-answer}
use Rattle.muni_sched.proofs.laws.the_answer_is_one.Goals as goal

pub returns : goal.returns
returns c = one-answer
