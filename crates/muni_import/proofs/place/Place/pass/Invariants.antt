use Rattle.std.proofs.Common.{take}
use Rattle.muni_import.specs.Places.{Passes}
use Rattle.muni_import.proofs.place.Place.pass.Given as goal

abbrev pub invariant-loop-i : goal.invariant-loop-i
invariant-loop-i l = Passes l.fn.self (take l.i l.bytes) l.end l.self
