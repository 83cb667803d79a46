use Rattle.std.proofs.Common.{take}
use Rattle.std.specs.List.{AllZip}
use Rattle.std.specs.BTreeMap as tree
use Rattle.muni_answer.specs.Answers.{IsRightAnswer}
use Rattle.muni_keep.specs.Trades.{by_bytes}
use Rattle.muni_marks.specs.Marks.{IsMark}
use Rattle.muni_marks.proofs.pricing.marks_of_block.Given as goal

-- what is said of the rows so far
abbrev pub invariant-loop-row : goal.invariant-loop-row
invariant-loop-row g l = AllZip (IsMark (IsRightAnswer (g.E.Encloser.ends l.encloser)) (tree.get by_bytes l.issues)) (take l.row-index l.rows) l.said.items
