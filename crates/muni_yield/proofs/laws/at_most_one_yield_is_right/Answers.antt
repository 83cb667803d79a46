use Rattle.muni_yield.proofs.OutcomeLemmas.{one-yield}
use Rattle.muni_yield.proofs.laws.at_most_one_yield_is_right.Goals as goal

pub returns : goal.returns
returns c = one-yield
