use Rattle.std.proofs.Common.{◌≡◌, ◌≤◌, take}
use Rattle.std.specs.Prelude.{IfSome}
use Rattle.std.specs.BTreeMap as tree
use Rattle.std.specs.BTreeSet as set
use Rattle.muni_keep.specs.Trades.{by_bytes}
use Rattle.muni_marks.specs.Portfolio.{AreKnown}
use Rattle.muni_figures.specs.Issues.{AreAsked}
use Rattle.muni_figures.proofs.issues.ask_each.Given as goal

-- the CUSIPs so far are known
abbrev pub invariant-loop-cusip : goal.invariant-loop-cusip
invariant-loop-cusip g l = record {
  known : IfSome (g.K.Keeper.tables l.fn.keeper) (λ t. AreKnown t (tree.get by_bytes l.issues) (set.contains by_bytes l.missing));
  asked : IfSome (g.K.Keeper.tables l.fn.keeper) (λ t. AreAsked t (take l.cusip-index l.unknown) (tree.get by_bytes l.fn.issues) (tree.get by_bytes l.issues));
  tables : g.K.Keeper.tables l.keeper ≡ g.K.Keeper.tables l.fn.keeper;
  later : g.K.Keeper.faults l.fn.keeper ≤ g.K.Keeper.faults l.keeper;
  lent_as : g.K.Keeper.lent_as l.keeper ≡ g.K.Keeper.lent_as l.fn.keeper;
}
