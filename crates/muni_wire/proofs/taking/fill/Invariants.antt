use Rattle.std.proofs.Common.{◌≡◌, ◌≤◌, ◌<◌, ◌+◌, ◌-◌, ◌++◌, ℕ, List, length}
use Rattle.std.specs.Io.KnownBytes.{Consumes}
use Rattle.muni_wire.specs.Extent.{TakesAtMost, TakesOnlyWhile}
use Rattle.muni_wire.proofs.taking.fill.Given as goal

-- more may be there at first than is wanted
abbrev pub invariant-loop-turn : goal.invariant-loop-turn
invariant-loop-turn g l = record {
  taken : (piece : List ℕ) × Consumes (g.L.Source.left l.fn.link) (g.L.Source.left l.link) piece × (l.bytes.items ≡ l.fn.bytes.items ++ piece);
  few : TakesAtMost (l.limit - length l.fn.bytes.items) (g.L.Source.left l.fn.link) (g.L.Source.left l.link);
  ready : TakesOnlyWhile g.L.Source (λ before. length l.fn.bytes.items + length before < l.limit) l.fn.link l.link;
  each : l._turn ≤ length l.bytes.items;
  most : 1 ≤ l._turn → length l.bytes.items ≤ l.limit;
  uncounted : g.L.Source.faults l.link ≡ g.L.Source.faults l.fn.link;
  keeps_bytes : g.L.Sink.bytes l.link ≡ g.L.Sink.bytes l.fn.link;
  keeps_puts : g.L.Sink.faults l.link ≡ g.L.Sink.faults l.fn.link;
}
