use Rattle.std.proofs.Common.{◌≡◌, ◌≤◌, ◌*◌, ◌++◌, drop, length}
use Rattle.muni_store_rows.specs.Calls.{calls_behind_blanks}
use Rattle.muni_store_rows.proofs.calls.print_calls.Given as goal

-- the calls so far, and those that are left, are all of them
abbrev pub invariant-loop-call : goal.invariant-loop-call
invariant-loop-call l = record {
  left : l.text.items ++ calls_behind_blanks (drop l.call-index l.calls) ≡ calls_behind_blanks l.calls;
  room : length l.text.items ≤ 42 * l.call-index;
}
