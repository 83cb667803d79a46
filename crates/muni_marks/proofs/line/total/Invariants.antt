use Rattle.std.proofs.Common.{◌≡◌, ◌≤◌, ◌*◌, take}
use Rattle.muni_marks.specs.Line.{marked_count, marked_sum}
use Rattle.muni_marks.proofs.line.total.Given as goal

-- the rows so far
abbrev pub invariant-loop-mark : goal.invariant-loop-mark
invariant-loop-mark l = record {
  count : l.count ≡ marked_count (take l.mark-index l.said);
  sum : l.sum ≡ marked_sum (take l.mark-index l.said);
  few : l.count ≤ l.mark-index;
  most : l.sum ≤ l.mark-index * 9_223_372_036_854_775_807;
}
