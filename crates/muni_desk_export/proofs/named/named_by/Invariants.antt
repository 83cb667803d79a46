use Rattle.std.proofs.Common.{◌≡◌, ◌≤◌, ℕ, List}
use Rattle.std.specs.Prelude.{IfSome, ◌||◌}
use Rattle.std.specs.List.{list_any}
use Rattle.muni_desk_export.specs.Named.{has, names, is_named}
use Rattle.muni_desk_export.proofs.PageLemmas.{lines_past}
use Rattle.muni_desk_export.proofs.named.named_by.Given as goal

-- a CUSIP is among those so far, or named by a trade that is left, exactly if the desk names it
abbrev pub invariant-pages : goal.invariant-pages
invariant-pages g l = record {
  left : IfSome (g.K.Keeper.tables l.fn.keeper) (λ t. (cusip : List ℕ) → (list_any (names t l.desk cusip) (lines_past t l.desk l.after) || has l.named cusip) ≡ is_named t l.desk cusip);
  tables : g.K.Keeper.tables l.keeper ≡ g.K.Keeper.tables l.fn.keeper;
  later : g.K.Keeper.faults l.fn.keeper ≤ g.K.Keeper.faults l.keeper;
  lent_as : g.K.Keeper.lent_as l.keeper ≡ g.K.Keeper.lent_as l.fn.keeper;
}
