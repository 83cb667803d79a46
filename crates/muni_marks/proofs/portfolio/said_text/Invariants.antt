use Rattle.std.proofs.Common.{◌≡◌, ◌+◌, ◌++◌, drop}
use Rattle.std.specs.List.{AllByRecursion}
use Rattle.muni_marks.specs.Line.{HasName, mark_lines}
use Rattle.muni_marks.proofs.portfolio.said_text.Given as goal

-- with the lines to come it is all lines
abbrev pub invariant-loop-place : goal.invariant-loop-place
invariant-loop-place l = record {
  lines : l.text.items ++ mark_lines (1 + l.place) (drop l.place l.said) ≡ mark_lines 1 l.said;
  names : AllByRecursion HasName (drop l.place l.said);
}
