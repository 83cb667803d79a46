use Rattle.muni_answer.proofs.UniqueLemmas.{answers-unique}
use Rattle.muni_answer.proofs.laws.the_answer_to_a_request_is_unique.Goals as goal

pub returns : goal.returns
returns c = answers-unique
