use Rattle.std.proofs.Common.{◌≡◌, length}
use Rattle.muni_store.proofs.catalog.shapes_of.Given as goal

abbrev pub invariant-loop-at : goal.invariant-loop-at
invariant-loop-at l = length l.shapes.items ≡ l.at
