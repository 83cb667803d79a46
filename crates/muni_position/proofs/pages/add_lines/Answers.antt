use Rattle.std.proofs.Common.{arith}
use Rattle.muni_position.specs.Holdings.{kept}
use Rattle.muni_position.proofs.BoundLemmas.{bounded-more}
use Rattle.muni_position.proofs.SumLemmas.{no_lines, line_more}
use Rattle.muni_position.proofs.pages.add_lines.Goals as goal

pub loop-line-init : goal.loop-line-init
loop-line-init c = record {
  range = c.requires.range;
  sums = λ cusip. no_lines (kept c.args.holdings.now cusip) cusip;
  few = λ cusip. omega arith;
  bounded = tt;
}

pub loop-line-preserved : goal.loop-line-preserved
loop-line-preserved c = record {
  range = c.in_ok-add.ensures.range;
  sums = λ cusip. line_more (kept c.args.holdings.now cusip) (kept c.loop-line.holdings cusip) (kept c.add.new.holdings cusip) cusip c.args.lines.now c.loop-line.line-index c.line-item.result c.loop-line-test.true c.line-item.is (c.in_ok-add.ensures.sums cusip) (c.loop-line.invariant.sums cusip);
  few = λ cusip. omega (arith, c.in_ok-add.ensures.few cusip, c.loop-line.invariant.few cusip);
  bounded = bounded-more c.args.lines.now c.loop-line.line-index c.line-item.result c.loop-line-test.true c.line-item.is c.loop-line.invariant.bounded c.add.ensures.bounded;
}
