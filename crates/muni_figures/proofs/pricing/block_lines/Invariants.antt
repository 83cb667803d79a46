use Rattle.std.proofs.Common.{List}
use Rattle.std.specs.BTreeMap as tree
use Rattle.std.specs.Option.{option_map}
use Rattle.muni_answer.specs.Answers.{IsRightAnswer}
use Rattle.muni_keep.specs.Trades.{by_bytes}
use Rattle.muni_figures.specs.Done.{AreDone}
use Rattle.muni_figures.specs.Rows.{Row}
use Rattle.muni_figures.specs.Said.{IsSaid}
use Rattle.muni_figures.proofs.RowLemmas.{IsRead, left_size}
use Rattle.muni_figures.proofs.pricing.block_lines.Given as goal

-- the rows of the lines so far are done
abbrev pub invariant-loop-left : goal.invariant-loop-left
invariant-loop-left g l = record {
  rows : List Row;
  read : IsRead l.share.block.items (option_map (λ text. text.now) l.left) rows;
  done : AreDone (IsSaid (IsRightAnswer (g.E.Encloser.ends l.calculator.encloser.now)) l.has_risk (tree.get by_bytes l.issues)) l.share.place rows l.lines.text.items l.lines.tally;
}

abbrev pub decreases-loop-left : goal.decreases-loop-left
decreases-loop-left g l = left_size (option_map (λ text. text.now) l.left)
