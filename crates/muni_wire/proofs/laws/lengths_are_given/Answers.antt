use Rattle.muni_wire.proofs.LengthLemmas.{lengths-are-given}
use Rattle.muni_wire.proofs.laws.lengths_are_given.Goals as goal

pub returns : goal.returns
returns c = lengths-are-given
