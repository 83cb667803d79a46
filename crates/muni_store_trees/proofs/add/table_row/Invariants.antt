use Rattle.std.proofs.Common.{◌≡◌, ◌∷◌, map, take}
use Rattle.sqlite_value.specs.Value.{owned}
use Rattle.sqlite_value.specs.declared.value.Value.TheVariants.{Int}
use Rattle.muni_store_trees.proofs.add.table_row.Given as goal

abbrev pub invariant-loop-value : goal.invariant-loop-value
invariant-loop-value l = l.row ≡ Int l.id ∷ map owned (take l.value-index l.columns)
