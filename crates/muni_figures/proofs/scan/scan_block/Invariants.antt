use Rattle.std.proofs.Common.{◌≡◌, List, length}
use Rattle.std.specs.BTreeMap as tree
use Rattle.std.specs.List.{AllByRecursion}
use Rattle.std.specs.Option.{option_map}
use Rattle.muni_keep.specs.Trades.{by_bytes}
use Rattle.muni_figures.specs.Issues.{IsNamed}
use Rattle.muni_figures.specs.Rows.{Row}
use Rattle.muni_figures.proofs.RowLemmas.{IsRead, left_size}
use Rattle.muni_figures.proofs.scan.scan_block.Given as goal

-- the rows of the lines so far
abbrev pub invariant-loop-left : goal.invariant-loop-left
invariant-loop-left l = record {
  done : List Row;
  read : IsRead l.block (option_map (λ text. text.now) l.left) done;
  counted : l.rows ≡ length done;
  named : AllByRecursion (IsNamed (tree.get by_bytes l.issues) l.unknown.items) done;
}

abbrev pub decreases-loop-left : goal.decreases-loop-left
decreases-loop-left l = left_size (option_map (λ text. text.now) l.left)
