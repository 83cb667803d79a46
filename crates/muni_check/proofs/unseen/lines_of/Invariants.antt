use Rattle.std.proofs.Common.{◌≡◌, ◌≤◌, ◌+◌, ◌++◌, length, drop}
use Rattle.muni_check_rows.specs.Line.{unseen_lines}
use Rattle.muni_check.specs.Named.{has}
use Rattle.muni_check.specs.Unseen.{unseen_of}
use Rattle.muni_check.proofs.unseen.lines_of.Given as goal

-- what is written, and the lines of the trades that are left, are the lines of all
abbrev pub invariant-loop-trade : goal.invariant-loop-trade
invariant-loop-trade l = record {
  text : l.lines.text.items ++ unseen_lines (unseen_of (has l.named) (drop l.trade-index l.page)) ≡ unseen_lines (unseen_of (has l.named) l.page);
  count : l.lines.count + length (unseen_of (has l.named) (drop l.trade-index l.page)) ≡ length (unseen_of (has l.named) l.page);
  few : l.lines.count ≤ l.trade-index;
}
