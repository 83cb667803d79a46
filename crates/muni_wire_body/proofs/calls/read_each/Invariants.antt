use Rattle.std.proofs.Common.{◌≡◌, map, drop, length}
use Rattle.serde_json.specs.View.{view}
use Rattle.muni_wire_body.specs.Calls.{each_call}
use Rattle.muni_wire_body.proofs.CallLemmas.{with_more}
use Rattle.muni_wire_body.proofs.calls.read_each.Given as goal

-- the calls so far, and those that are left, are all of them
abbrev pub invariant-loop-item : goal.invariant-loop-item
invariant-loop-item l = record {
  left : with_more l.calls.items (each_call (map view (drop l.item-index l.items))) ≡ each_call (map view l.items);
  room : length l.calls.items ≡ l.item-index;
}
