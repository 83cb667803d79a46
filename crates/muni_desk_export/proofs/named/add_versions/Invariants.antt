use Rattle.std.proofs.Common.{◌≡◌, ◌≤◌, ◌-◌, ℕ, List, drop}
use Rattle.std.specs.Prelude.{IfSome, ◌||◌}
use Rattle.std.specs.List.{list_any}
use Rattle.muni_desk_export.specs.Named.{has, is_of}
use Rattle.muni_desk_export.specs.Trades.{versions_at}
use Rattle.muni_desk_export.proofs.named.add_versions.Given as goal

-- a CUSIP is among those so far, or of a version that is left, exactly if it was or is of one of all
abbrev pub invariant-loop-number : goal.invariant-loop-number
invariant-loop-number g l = record {
  left : IfSome (g.K.Keeper.tables l.fn.keeper) (λ t. (cusip : List ℕ) → (list_any (is_of cusip) (drop (l.number - 1) (versions_at t l.key)) || has l.named cusip)
      ≡ (list_any (is_of cusip) (versions_at t l.key) || has l.fn.named cusip));
  first : 1 ≤ l.number;
  most : IfSome (g.K.Keeper.tables l.fn.keeper) (λ t. l.number ≤ l.line.number);
  tables : g.K.Keeper.tables l.keeper ≡ g.K.Keeper.tables l.fn.keeper;
  later : g.K.Keeper.faults l.fn.keeper ≤ g.K.Keeper.faults l.keeper;
  lent_as : g.K.Keeper.lent_as l.keeper ≡ g.K.Keeper.lent_as l.fn.keeper;
}
