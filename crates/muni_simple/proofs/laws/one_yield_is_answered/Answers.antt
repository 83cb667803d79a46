use Rattle.muni_simple.proofs.OneAnswer.{answer-same}
use Rattle.muni_simple.proofs.laws.one_yield_is_answered.Goals as goal

pub returns : goal.returns
returns c = answer-same
