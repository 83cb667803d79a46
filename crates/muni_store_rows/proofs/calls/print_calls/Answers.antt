use Rattle.std.proofs.Common.{arith}
use Rattle.muni_store_rows.proofs.CallLemmas.{next-call, last-call}
use Rattle.muni_store_rows.proofs.calls.print_calls.Goals as goal

pub loop-call-preserved : goal.loop-call-preserved
loop-call-preserved c = record {
  left = rw c.push_call.ensures.items (next-call c.args.calls.now c.loop-call.call-index c.call-item.result c.loop-call.text.items _ (omega arith) c.call-item.is c.loop-call.invariant.left);
  room = omega (arith, c.push_call.ensures.len, c.loop-call.invariant.room);
}

pub returns : goal.returns
returns c = last-call c.args.calls.now c.loop-call.call-index c.loop-call.text.items _ (omega arith) c.loop-call.invariant.left
