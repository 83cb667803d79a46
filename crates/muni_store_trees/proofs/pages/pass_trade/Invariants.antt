use Rattle.std.proofs.Common.{◌≡◌, List, ◌∷◌, IsSome}
use Rattle.sqlite_value.specs.Order.{Row}
use Rattle.sqlite_trees.specs.View.{IsClean}
use Rattle.muni_store_trees.specs.Entries.{Scans}
use Rattle.muni_store_trees.specs.Found.{last_of_each}
use Rattle.muni_store_trees.specs.Looks.{HasLooked}
use Rattle.muni_store_trees.proofs.pages.pass_trade.Given as goal

abbrev pub invariant-loop : goal.invariant-loop
invariant-loop g l =
    record {
      live : IsSome ((g.S.Store.view l.store).cursors 0);
      looked : HasLooked g.S.Store.view g.S.Store.recovers l.fn.store l.store;
      passed : IsClean (g.S.Store.view l.store) → (left : List Row) → Scans (g.S.Store.view l.fn.store) l.desk left
          → (now : List Row) × (last_of_each (l.fn.entry ∷ left) ≡ last_of_each (l.entry ∷ now)) × Scans (g.S.Store.view l.store) l.desk now;
    }
