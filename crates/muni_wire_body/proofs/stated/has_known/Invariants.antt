use Rattle.std.proofs.Common.{◌≡◌, map, string_bytes}
use Rattle.std.specs.List.{list_all}
use Rattle.serde_json.specs.Find.{as_object}
use Rattle.serde_json.specs.View.{view}
use Rattle.muni_wire_body.specs.Stated.{has_known, is_known}
use Rattle.muni_wire_body.proofs.stated.has_known.Given as goal

-- the names so far are known
abbrev pub invariant-loop-name : goal.invariant-loop-name
invariant-loop-name l = list_all is_known (map string_bytes l.name-iterator) ≡ has_known (as_object (view l.value))
