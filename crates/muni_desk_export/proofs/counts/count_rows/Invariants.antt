use Rattle.std.proofs.Common.{◌≡◌, ◌≤◌, ◌+◌}
use Rattle.std.specs.Prelude.{IfSome}
use Rattle.muni_desk_export.specs.Counts.{row_count}
use Rattle.muni_desk_export.specs.Walk.{left}
use Rattle.muni_desk_export.proofs.counts.count_rows.Given as goal

-- the rows so far, and those that are left, are all
abbrev pub invariant-pieces : goal.invariant-pieces
invariant-pieces g l = record {
  counted : IfSome (g.K.Keeper.tables l.fn.keeper) (λ t. l.count + row_count (left t l.walk) ≡ row_count (left t l.fn.walk));
  tables : g.K.Keeper.tables l.keeper ≡ g.K.Keeper.tables l.fn.keeper;
  later : g.K.Keeper.faults l.fn.keeper ≤ g.K.Keeper.faults l.keeper;
  lent_as : g.K.Keeper.lent_as l.keeper ≡ g.K.Keeper.lent_as l.fn.keeper;
}
