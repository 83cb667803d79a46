use Rattle.std.proofs.Common.{rules, ◌≡◌, ◌++◌, ◌∷◌, []}
use Rattle.std.specs.BTreeMap as tree
use Rattle.muni_answer.specs.Answers.{IsRightAnswer}
use Rattle.muni_keep.specs.Trades.{by_bytes}
use Rattle.muni_marks.specs.Marks.{IsMark}
use Rattle.muni_marks.proofs.BlockLemmas.{row_more}
use Rattle.muni_marks.proofs.pricing.marks_of_block.Goals as goal

pub loop-row-preserved : goal.loop-row-preserved
loop-row-preserved g c =
    let mark = IsMark (IsRightAnswer (g.E.Encloser.ends c.args.encloser.now)) (tree.get by_bytes c.args.issues.now) in
    let items : c.push.new.self.items ≡ c.loop-row.said.items ++ c.mark.result ∷ [] = search rules in
    rw items (row_more mark c.args.rows.now c.loop-row.said.items c.loop-row.row-index c.row-item.result c.mark.result c.loop-row-test.true c.row-item.is c.loop-row.invariant c.mark.ensures)
