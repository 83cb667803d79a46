use Rattle.std.proofs.Common.{◌-◌, ◌≤◌, List, IsSome}
use Rattle.arrayvec.specs.ArrayVec.{array_vec_len}
use Rattle.sqlite_value.specs.Order.{Row}
use Rattle.sqlite_trees.specs.View.{IsClean}
use Rattle.muni_store_trees.specs.Entries.{from, matching}
use Rattle.muni_store_trees.specs.Found.{AreLines, last_of_each}
use Rattle.muni_store_trees.specs.Keys.{text_key, trade_key_past}
use Rattle.muni_store_trees.specs.Looks.{HasLooked}
use Rattle.muni_store_trees.proofs.PageLemmas.{IsAt}
use Rattle.muni_store_trees.proofs.pages.read_page.Given as goal

abbrev pub invariant-page : goal.invariant-page
invariant-page g l =
    record {
      room : array_vec_len l.lines ≤ 50;
      live : IsSome ((g.S.Store.view l.store).cursors 0);
      looked : HasLooked g.S.Store.view g.S.Store.recovers l.fn.store l.store;
      so_far : IsClean (g.S.Store.view l.store) → (done : List Row)
          × AreLines ((g.S.Store.view l.fn.store).trees l.fn.places.versions) l.desk done l.lines.items
          × IsAt (g.S.Store.view l.store) (text_key l.desk) done (last_of_each (matching (text_key l.desk) (from (trade_key_past l.desk l.fn.after) ((g.S.Store.view l.fn.store).trees l.places.keys)))) l.entry l.is_more;
    }

abbrev pub decreases-page : goal.decreases-page
decreases-page g l = 50 - array_vec_len l.lines
