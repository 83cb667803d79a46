use Rattle.std.proofs.Common.{◌≡◌, ◌≤◌, ℕ, List}
use Rattle.std.specs.Prelude.{IfSome}
use Rattle.muni_position.specs.Holdings.{AreInRange, kept}
use Rattle.muni_position.proofs.PageLemmas.{IsSummed}
use Rattle.muni_position.proofs.pages.sum_desk.Given as goal

-- this many lines were read
abbrev pub invariant-pages : goal.invariant-pages
invariant-pages g l = record {
  range : AreInRange l.holdings;
  few : (cusip : List ℕ) → (kept l.holdings cusip).live ≤ l.count;
  turns : l.turn ≤ l.count;
  count : l.count ≤ 100_000_000;
  tables : g.K.Keeper.tables l.keeper ≡ g.K.Keeper.tables l.fn.keeper;
  later : g.K.Keeper.faults l.fn.keeper ≤ g.K.Keeper.faults l.keeper;
  lent_as : g.K.Keeper.lent_as l.keeper ≡ g.K.Keeper.lent_as l.fn.keeper;
  summed : IfSome (g.K.Keeper.tables l.fn.keeper) (λ t. IsSummed l.desk t l.after l.count l.holdings);
}
