use Rattle.std.proofs.Common.{◌≡◌, ◌≤◌, ◌++◌, ◌-◌, drop}
use Rattle.std.specs.Prelude.{IfSome}
use Rattle.muni_desk_export.specs.Trades.{version_rows, versions_at, trade_rows}
use Rattle.muni_desk_export.proofs.trades.put_versions.Given as goal

-- the rows so far, and those of the versions that are left, are those of all
abbrev pub invariant-loop-number : goal.invariant-loop-number
invariant-loop-number g l = record {
  left : IfSome (g.K.Keeper.tables l.fn.keeper) (λ t. l.rows ++ version_rows t l.key l.number (drop (l.number - 1) (versions_at t l.key)) ≡ l.fn.rows ++ trade_rows t l.key);
  first : 1 ≤ l.number;
  most : IfSome (g.K.Keeper.tables l.fn.keeper) (λ t. l.number ≤ l.line.number);
  tables : g.K.Keeper.tables l.keeper ≡ g.K.Keeper.tables l.fn.keeper;
  later : g.K.Keeper.faults l.fn.keeper ≤ g.K.Keeper.faults l.keeper;
  lent_as : g.K.Keeper.lent_as l.keeper ≡ g.K.Keeper.lent_as l.fn.keeper;
}
