use Rattle.std.proofs.Common.{◌≡◌, length}
use Rattle.muni_store.proofs.catalog.without_roots.Given as goal

abbrev pub invariant-loop-entry : goal.invariant-loop-entry
invariant-loop-entry l = length l.rows.items ≡ l.entry-index
