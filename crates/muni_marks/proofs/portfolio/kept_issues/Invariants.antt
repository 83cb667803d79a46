use Rattle.std.proofs.Common.{◌≡◌, ◌≤◌, take}
use Rattle.std.specs.Prelude.{IfSome}
use Rattle.std.specs.BTreeMap as tree
use Rattle.std.specs.BTreeSet as set
use Rattle.muni_keep.specs.Trades.{by_bytes}
use Rattle.muni_marks.proofs.PortfolioLemmas.{IsSoFar}
use Rattle.muni_marks.proofs.portfolio.kept_issues.Given as goal

-- the CUSIPs of the rows so far are known
abbrev pub invariant-loop-row : goal.invariant-loop-row
invariant-loop-row g l = record {
  far : IfSome (g.K.Keeper.tables l.fn.keeper) (λ t. IsSoFar t (tree.get by_bytes l.issues) (set.contains by_bytes l.missing) (take l.row-index l.rows));
  tables : g.K.Keeper.tables l.keeper ≡ g.K.Keeper.tables l.fn.keeper;
  later : g.K.Keeper.faults l.fn.keeper ≤ g.K.Keeper.faults l.keeper;
  lent_as : g.K.Keeper.lent_as l.keeper ≡ g.K.Keeper.lent_as l.fn.keeper;
}
