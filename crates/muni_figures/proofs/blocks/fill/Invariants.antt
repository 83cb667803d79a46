use Rattle.std.proofs.Common.{◌≡◌, ◌≤◌, ◌-◌, ◌++◌, ℕ, List, length}
use Rattle.std.specs.Io.KnownBytes.{Consumes}
use Rattle.muni_figures.specs.Blocks.{most_bytes}
use Rattle.muni_figures.proofs.blocks.fill.Given as goal

-- these bytes were taken so far, and added
abbrev pub invariant-loop-room : goal.invariant-loop-room
invariant-loop-room g l = record {
  piece : List ℕ;
  taken : Consumes (g.I.Source.left l.fn.input) (g.I.Source.left l.input) piece;
  added : l.bytes.items ≡ l.fn.bytes.items ++ piece;
  uncounted : g.I.Source.faults l.input ≡ g.I.Source.faults l.fn.input;
  few : length l.fn.bytes.items ≤ most_bytes → length l.bytes.items ≤ most_bytes;
}

abbrev pub decreases-loop-room : goal.decreases-loop-room
decreases-loop-room g l = l.least - length l.bytes.items
