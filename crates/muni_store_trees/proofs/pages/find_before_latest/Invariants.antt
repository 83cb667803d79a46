use Rattle.std.proofs.Common.{◌≡◌, ◌-◌, ◌≤◌, List, IsSome, filter, reverse, slice_get}
use Rattle.sqlite_value.specs.Order.{Row}
use Rattle.sqlite_trees.specs.View.{IsClean}
use Rattle.muni_store_trees.specs.Entries.{Scans, matching}
use Rattle.muni_store_trees.specs.Found.{is_first_version}
use Rattle.muni_store_trees.specs.Keys.{text_key}
use Rattle.muni_store_trees.specs.Looks.{HasLooked}
use Rattle.muni_store_trees.proofs.pages.find_before_latest.Given as goal

abbrev pub invariant-loop : goal.invariant-loop
invariant-loop g l =
    record {
      bound : l.passed ≤ 50;
      live : IsSome ((g.S.Store.view l.store).cursors 0);
      looked : HasLooked g.S.Store.view g.S.Store.recovers l.fn.store l.store;
      before : IsClean (g.S.Store.view l.store) → (now : List Row) × Scans (g.S.Store.view l.store) (text_key l.desk) now
          × (slice_get (filter is_first_version (reverse (matching (text_key l.desk) ((g.S.Store.view l.fn.store).trees l.fn.places.keys)))) 50
          ≡ slice_get (filter is_first_version now) (50 - l.passed));
    }
