use Rattle.std.proofs.Common.{rules, arith, ◌≡◌, ◌+◌, ◌∷◌, [], Some, None, ap, ◌∙◌}
use Rattle.std.proofs.lemmas.List.{length-append}
use Rattle.serde_json.specs.View.{view}
use Rattle.muni_wire_body.specs.Calls.{call_in}
use Rattle.muni_wire_body.proofs.CallLemmas.{one-more, not-one, no-more}
use Rattle.muni_wire_body.proofs.calls.read_each.Goals as goal

pub returns-in_err-call : goal.returns-in_err-call
returns-in_err-call c =
    let reads : call_in (view c.item-item.result) ≡ None = search rules in
    let none = not-one view c.args.items.now c.loop-item.item-index c.item-item.result c.loop-item.calls.items _ (omega arith) c.item-item.is reads c.loop-item.invariant.left in
    rw (← none) (search rules)

pub loop-item-preserved : goal.loop-item-preserved
loop-item-preserved c =
    let reads : call_in (view c.item-item.result) ≡ Some c.in_ok-call.field-0 = search rules in
    rw c.push.ensures.items record {
      left = one-more view c.args.items.now c.loop-item.item-index c.item-item.result c.in_ok-call.field-0 c.loop-item.calls.items _ (omega arith) c.item-item.is reads c.loop-item.invariant.left;
      room = length-append c.loop-item.calls.items (c.in_ok-call.field-0 ∷ []) ∙ ap (λ n. n + 1) c.loop-item.invariant.room;
    }

pub returns : goal.returns
returns c = no-more view c.args.items.now c.loop-item.item-index c.loop-item.calls.items _ (omega arith) c.loop-item.invariant.left
