use Rattle.std.proofs.Common.{arith}
use Rattle.std.proofs.lemmas.Int.{ints}
use Rattle.muni_sched.proofs.yields.boundary_above.Goals as goal

pub new-requires : goal.new-requires
new-requires c = (omega (arith, ints, c.requires.0, c.requires.1), omega (arith, ints, c.requires.0, c.requires.1))

pub returns : goal.returns
returns c = omega (arith, ints, c.requires.0, c.requires.1, c.new.ensures)
