use Rattle.std.proofs.Common.{rules, arith, ◌≡◌, Some, map, codes, ◌∙◌}
use Rattle.std.proofs.lemmas.List.{length-map}
use Rattle.serde_json.specs.Find.{get, as_array}
use Rattle.serde_json.specs.View.{view, items_of}
use Rattle.muni_wire_body.proofs.CallLemmas.{calls-few, calls-many}
use Rattle.muni_wire_body.proofs.calls.read_calls.Goals as goal

pub returns-then-len-gt40 : goal.returns-then-len-gt40
returns-then-len-gt40 c =
    let is : get (codes "calls") (view c.args.value.now) ≡ Some (view c.in-Some.found.now) = search rules in
    let array : as_array (view c.in-Some.found.now) ≡ Some (items_of (map view c.in_ok-items.items.now.items)) = search rules in
    calls-many (view c.args.value.now) (view c.in-Some.found.now) (map view c.in_ok-items.items.now.items) is array (omega (arith, length-map c.in_ok-items.items.now.items view))

pub returns : goal.returns
returns c =
    let is : get (codes "calls") (view c.args.value.now) ≡ Some (view c.in-Some.found.now) = search rules in
    let array : as_array (view c.in-Some.found.now) ≡ Some (items_of (map view c.in_ok-items.items.now.items)) = search rules in
    c.read_each.ensures ∙ rw c.as_slice.ensures.value (calls-few (view c.args.value.now) (view c.in-Some.found.now) (map view c.in_ok-items.items.now.items) is array (omega (arith, length-map c.in_ok-items.items.now.items view)))
