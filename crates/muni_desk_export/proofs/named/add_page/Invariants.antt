use Rattle.std.proofs.Common.{◌≡◌, ◌≤◌, ℕ, List, drop}
use Rattle.std.specs.Prelude.{IfSome, ◌||◌}
use Rattle.std.specs.List.{list_any}
use Rattle.muni_desk_export.specs.Named.{has, names}
use Rattle.muni_desk_export.proofs.named.add_page.Given as goal

-- a CUSIP is among those so far, or named by a trade that is left, exactly if it was or is named by one of all
abbrev pub invariant-loop-line : goal.invariant-loop-line
invariant-loop-line g l = record {
  left : IfSome (g.K.Keeper.tables l.fn.keeper) (λ t. (cusip : List ℕ) → (list_any (names t l.desk cusip) (drop l.line-index l.page) || has l.named cusip)
      ≡ (list_any (names t l.desk cusip) l.page || has l.fn.named cusip));
  tables : g.K.Keeper.tables l.keeper ≡ g.K.Keeper.tables l.fn.keeper;
  later : g.K.Keeper.faults l.fn.keeper ≤ g.K.Keeper.faults l.keeper;
  lent_as : g.K.Keeper.lent_as l.keeper ≡ g.K.Keeper.lent_as l.fn.keeper;
}
