use Rattle.std.proofs.Common.{◌≡◌, ◌≤◌, ◌<◌, length}
use Rattle.std.specs.Io.KnownBytes.{Consumes}
use Rattle.httparse.specs.Grammar.{HasNoRequest}
use Rattle.muni_wire.specs.Head.{head_limit}
use Rattle.muni_wire.specs.Taken.{has_text}
use Rattle.muni_wire.proofs.taking.read_head.Given as goal

abbrev pub invariant-loop-turn : goal.invariant-loop-turn
invariant-loop-turn g l = record {
  taken : Consumes (g.L.Source.left l.fn.link) (g.L.Source.left l.link) l.bytes.items;
  each : l._turn ≤ length l.bytes.items;
  room : length l.bytes.items < head_limit;
  begun : l.has_begun ≡ has_text l.bytes.items;
  none : HasNoRequest l.bytes.items;
  uncounted : g.L.Source.faults l.link ≡ g.L.Source.faults l.fn.link;
  keeps_bytes : g.L.Sink.bytes l.link ≡ g.L.Sink.bytes l.fn.link;
  keeps_puts : g.L.Sink.faults l.link ≡ g.L.Sink.faults l.fn.link;
}
