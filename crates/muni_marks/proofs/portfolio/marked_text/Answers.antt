use Rattle.std.proofs.Common.{◌∙◌, ap, length, arith}
use Rattle.std.specs.BTreeMap as tree
use Rattle.std.proofs.lemmas.Slice.Zip.{AllZip-long}
use Rattle.muni_answer.specs.Answers.{IsRightAnswer}
use Rattle.muni_keep.specs.Trades.{by_bytes}
use Rattle.muni_marks.specs.Line.{marks_text}
use Rattle.muni_marks.specs.Marks.{IsMark}
use Rattle.muni_marks.proofs.PortfolioLemmas.{few, all_named, line-on-each, told_text}
use Rattle.muni_marks.proofs.portfolio.marked_text.Goals as goal

pub said_text-requires-clause-names : goal.said_text-requires-clause-names
said_text-requires-clause-names g c =
    rw c.as_slice-3.ensures.value (all_named (IsRightAnswer (g.E.Encloser.ends c.args.encloser.now)) (tree.get by_bytes c.in_ok-issues.issues) c.as_slice-2.result.now c.in_ok-said.said.items c.in_ok-said.ensures)

pub said_text-requires-clause-few : goal.said_text-requires-clause-few
said_text-requires-clause-few g c =
    let long = AllZip-long (IsMark (IsRightAnswer (g.E.Encloser.ends c.args.encloser.now)) (tree.get by_bytes c.in_ok-issues.issues)) c.as_slice-2.result.now c.in_ok-said.said.items c.in_ok-said.ensures in
    omega (arith, ap length c.as_slice-3.ensures.value, long, ap length c.as_slice-2.ensures.value, few c.args.text.now c.in_ok-rows.rows.items c.in_ok-rows.ensures, c.requires.limit)

pub returns-clause-lines : goal.returns-clause-lines
returns-clause-lines g c =
    told_text (IsRightAnswer (g.E.Encloser.ends c.args.encloser.now)) (g.C.Cabinet.told c.args.cabinet.now c.args.store.now) c.args.text.now c.in_ok-rows.rows.items c.in_ok-said.said.items c.in_ok-said_text.field-0.items (tree.get by_bytes c.in_ok-issues.issues) c.in_ok-rows.ensures
    (rw c.as_slice.ensures.value at c.in_ok-issues.ensures.issues) (rw c.as_slice-2.ensures.value at c.in_ok-said.ensures) (c.in_ok-said_text.ensures ∙ ap marks_text c.as_slice-3.ensures.value)

pub returns-clause-each : goal.returns-clause-each
returns-clause-each g c =
    line-on-each (IsRightAnswer (g.E.Encloser.ends c.args.encloser.now)) c.args.text.now c.in_ok-rows.rows.items c.in_ok-said.said.items c.in_ok-said_text.field-0.items (tree.get by_bytes c.in_ok-issues.issues) c.in_ok-rows.ensures
    (rw c.as_slice-2.ensures.value at c.in_ok-said.ensures) (c.in_ok-said_text.ensures ∙ ap marks_text c.as_slice-3.ensures.value)
