use Rattle.muni_position.proofs.NextLemmas.{are_those_held}
use Rattle.muni_position.proofs.laws.positions_are_those_held.Goals as goal

pub returns : goal.returns
returns c = are_those_held
