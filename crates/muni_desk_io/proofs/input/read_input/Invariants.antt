use Rattle.std.proofs.Common.{◌≡◌, ◌≤◌, ◌+◌, length}
use Rattle.std.specs.Io.KnownBytes.{Consumes}
use Rattle.muni_desk_io.proofs.input.read_input.Given as goal

-- these bytes were taken; each turn takes one at least
abbrev pub invariant-loop-turn : goal.invariant-loop-turn
invariant-loop-turn g l = record {
  taken : Consumes (g.I.Source.left l.fn.source) (g.I.Source.left l.source) l.bytes.items;
  each : l.turn ≤ length l.bytes.items;
  most : length l.bytes.items ≤ l.limit + 1;
  faults : g.I.Source.faults l.source ≡ g.I.Source.faults l.fn.source;
}
