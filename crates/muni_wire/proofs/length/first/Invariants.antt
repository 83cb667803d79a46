use Rattle.std.proofs.Common.{◌≡◌, find, map, drop}
use Rattle.httparse.specs.Spans.{header_bytes}
use Rattle.muni_wire.specs.BodyLength.{is_named}
use Rattle.muni_wire.proofs.length.first.Given as goal

abbrev pub invariant-loop-field : goal.invariant-loop-field
invariant-loop-field l =
    find (is_named l.name) (map (header_bytes l.bytes) (drop l.field-index l.fields)) ≡ find (is_named l.name) (map (header_bytes l.bytes) l.fields)
