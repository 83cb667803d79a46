use Rattle.std.proofs.Common.{arith}
use Rattle.muni_keep.specs.Tables.{line}
use Rattle.muni_keep.proofs.PageLemmas.{line_more, lines_end}
use Rattle.muni_keep.proofs.page.first_lines.Goals as goal

pub loop-reference-preserved : goal.loop-reference-preserved
loop-reference-preserved c = record {
  so_far = rw (c.push.ensures.items, c.line_of.ensures) (line_more line c.loop-reference.lines.items _ c.loop-reference.reference-iterator.n c.next.new.self.n (c.in-Some.reference.now, c.in-Some.trade.now) c.loop-reference.reference-iterator.iter c.next.new.self.iter c.in-Some.ensures.steps.0 c.in-Some.ensures.steps.1 c.loop-reference.invariant.so_far);
  room = omega (arith, c.in-Some.ensures.steps.1, c.loop-reference.invariant.room, c.push.ensures.len);
}

pub returns : goal.returns
returns c = lines_end line c.loop-reference.lines.items _ c.loop-reference.reference-iterator.n c.loop-reference.reference-iterator.iter (λ some. (c.in-None.ensures.steps some).0) c.loop-reference.invariant.so_far
