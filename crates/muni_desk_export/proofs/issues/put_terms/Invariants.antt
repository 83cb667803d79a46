use Rattle.std.proofs.Common.{◌≡◌, ◌≤◌, ◌++◌, ◌-◌, drop}
use Rattle.std.specs.Prelude.{IfSome}
use Rattle.muni_desk_export.specs.Issues.{rows_at, terms_at, terms_rows}
use Rattle.muni_desk_export.proofs.issues.put_terms.Given as goal

-- the rows so far, and those of the terms that are left, are those of all
abbrev pub invariant-loop-number : goal.invariant-loop-number
invariant-loop-number g l = record {
  left : IfSome (g.K.Keeper.tables l.fn.keeper) (λ t. l.rows ++ terms_rows l.number (drop (l.number - 1) (terms_at t l.cusip)) ≡ l.fn.rows ++ rows_at t l.cusip);
  first : 1 ≤ l.number;
  most : IfSome (g.K.Keeper.tables l.fn.keeper) (λ t. l.number ≤ l.last.0);
  tables : g.K.Keeper.tables l.keeper ≡ g.K.Keeper.tables l.fn.keeper;
  later : g.K.Keeper.faults l.fn.keeper ≤ g.K.Keeper.faults l.keeper;
  lent_as : g.K.Keeper.lent_as l.keeper ≡ g.K.Keeper.lent_as l.fn.keeper;
}
