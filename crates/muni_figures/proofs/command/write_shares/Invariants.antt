use Rattle.std.proofs.Common.{◌≡◌, ◌+◌, ℕ, List, take}
use Rattle.std.specs.BTreeMap as tree
use Rattle.muni_answer.specs.Answers.{IsRightAnswer}
use Rattle.muni_edge.specs.Sink.{HasWritten}
use Rattle.muni_keep.specs.Trades.{by_bytes}
use Rattle.muni_figures.specs.Done.{AreDone, IsSmall, tally_sum}
use Rattle.muni_figures.specs.Said.{IsSaid}
use Rattle.muni_figures.specs.Shares.{rows_of_shares}
use Rattle.muni_figures.specs.declared.tally.Tally.{Tally}
use Rattle.muni_figures.proofs.command.write_shares.Given as goal

-- the lines of the blocks so far were written
abbrev pub invariant-loop-share : goal.invariant-loop-share
invariant-loop-share g l = record {
  lines : List ℕ;
  these : Tally;
  done : AreDone (IsSaid (IsRightAnswer (g.E.Encloser.ends l.fn.valuing.calculator.now.encloser.now)) l.fn.valuing.options.has_risk (tree.get by_bytes l.fn.so_far.issues)) (l.fn.valuing.options.first + l.fn.so_far.tally.rows) (rows_of_shares (take l.share-index l.fn.shares)) lines these;
  tally : l.tally ≡ tally_sum l.fn.so_far.tally these;
  small : IsSmall l.tally;
  written : HasWritten (g.O.Sink.bytes l.fn.output) (g.O.Sink.bytes l.output) lines;
  puts : g.O.Sink.faults l.output ≡ g.O.Sink.faults l.fn.output;
}
