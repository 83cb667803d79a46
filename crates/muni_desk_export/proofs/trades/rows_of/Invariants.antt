use Rattle.std.proofs.Common.{◌≡◌, ◌≤◌, ◌++◌, drop}
use Rattle.std.specs.Prelude.{IfSome}
use Rattle.muni_desk_export.specs.Trades.{rows_of}
use Rattle.muni_desk_export.proofs.trades.rows_of.Given as goal

-- the rows so far, and those of the trades that are left, are those of all
abbrev pub invariant-loop-line : goal.invariant-loop-line
invariant-loop-line g l = record {
  left : IfSome (g.K.Keeper.tables l.fn.keeper) (λ t. l.rows ++ rows_of t l.desk (drop l.line-index l.page) ≡ rows_of t l.desk l.page);
  tables : g.K.Keeper.tables l.keeper ≡ g.K.Keeper.tables l.fn.keeper;
  later : g.K.Keeper.faults l.fn.keeper ≤ g.K.Keeper.faults l.keeper;
  lent_as : g.K.Keeper.lent_as l.keeper ≡ g.K.Keeper.lent_as l.fn.keeper;
}
