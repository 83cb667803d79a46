use Rattle.muni_position.proofs.BoundLemmas.{few_have_room}
use Rattle.muni_position.proofs.laws.few_trades_have_room.Goals as goal

pub returns : goal.returns
returns c = few_have_room
