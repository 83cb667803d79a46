use Rattle.std.proofs.Common.{arith}
use Rattle.muni_wire.proofs.ListLemmas.{next-line, last-line}
use Rattle.muni_wire.proofs.list.push_list.Goals as goal

pub loop-line-preserved : goal.loop-line-preserved
loop-line-preserved c = record {
  left = rw c.push_list_line.ensures.items (next-line c.args.lines.now c.loop-line.line-index c.line-item.result c.loop-line.text.items _ (omega arith) c.line-item.is c.loop-line.invariant.left);
  room = omega (arith, c.push_list_line.ensures.len, c.loop-line.invariant.room);
}

pub returns : goal.returns
returns c = last-line c.args.lines.now c.loop-line.line-index c.loop-line.text.items _ (omega arith) c.loop-line.invariant.left
