use Rattle.std.proofs.Common.{◌≡◌, ◌≤◌, ◌*◌, ◌++◌, drop, length}
use Rattle.muni_wire.specs.List.{list_text}
use Rattle.muni_wire.proofs.list.push_list.Given as goal

-- the lines so far, and those that are left, are all of them
abbrev pub invariant-loop-line : goal.invariant-loop-line
invariant-loop-line l = record {
  left : l.text.items ++ list_text (drop l.line-index l.lines) ≡ l.fn.text.items ++ list_text l.lines;
  room : length l.text.items ≤ 160 * l.line-index;
}
