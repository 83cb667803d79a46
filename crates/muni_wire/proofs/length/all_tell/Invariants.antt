use Rattle.std.proofs.Common.{◌≡◌, map, drop}
use Rattle.std.specs.List.{list_all}
use Rattle.httparse.specs.Spans.{header_bytes}
use Rattle.muni_wire.specs.BodyLength.{may_stand_beside}
use Rattle.muni_wire.proofs.length.all_tell.Given as goal

abbrev pub invariant-loop-field : goal.invariant-loop-field
invariant-loop-field l =
    list_all (may_stand_beside l.size) (map (header_bytes l.bytes) (drop l.field-index l.fields)) ≡ list_all (may_stand_beside l.size) (map (header_bytes l.bytes) l.fields)
