use Rattle.std.proofs.Common.{◌++◌, ◌∷◌, ◌∙◌, [], sym, length, arith}
use Rattle.std.specs.BTreeMap as tree
use Rattle.std.specs.Option.{option_map}
use Rattle.muni_answer.specs.Answers.{IsRightAnswer}
use Rattle.muni_keep.specs.Trades.{by_bytes}
use Rattle.muni_figures.specs.Rows.{row_of}
use Rattle.muni_figures.specs.Said.{IsSaid}
use Rattle.muni_figures.proofs.DoneLemmas.{done-more, done-none, done-rows}
use Rattle.muni_figures.proofs.RowLemmas.{read-none, read-row, read-within, size-shorter}
use Rattle.muni_figures.proofs.SaidLemmas.{said-named}
use Rattle.muni_figures.proofs.pricing.block_lines.Goals as goal

pub loop-left-init : goal.loop-left-init
loop-left-init g c =
    let Answers = IsSaid (IsRightAnswer (g.E.Encloser.ends c.args.calculator.now.encloser.now)) c.args.has_risk (tree.get by_bytes c.args.issues.now) in
    record {
      rows = [];
      read = rw c.as_slice.ensures.value (read-none c.args.share.now.block.items);
      done = rw (c.new-lines.ensures.text, c.new-lines.ensures.tally) (done-none Answers c.args.share.now.place);
    }

pub add-requires-clause-name : goal.add-requires-clause-name
add-requires-clause-name g c =
    said-named (IsRightAnswer (g.E.Encloser.ends c.args.calculator.now.encloser.now)) c.args.has_risk (tree.get by_bytes c.args.issues.now) c.read_line.result c.said_of-said.result c.said_of-said.ensures

pub add-requires-clause-room : goal.add-requires-clause-room
add-requires-clause-room g c =
    let Answers = IsSaid (IsRightAnswer (g.E.Encloser.ends c.args.calculator.now.encloser.now)) c.args.has_risk (tree.get by_bytes c.args.issues.now) in
    let before = c.loop-left.invariant in
    let line = c.next_line.result.0.now in
    let left = option_map (λ text. text.now) c.next_line.result.1 in
    let read = read-row c.args.share.now.block.items c.in-Some.bytes.now line left before.rows (rw c.in-Some.is at before.read) c.next_line.ensures.parts (size-shorter c.next_line.result.1 (length c.in-Some.bytes.now) c.next_line.ensures.shorter) (sym c.is_row.ensures ∙ c.if-is_row.true) in
    omega (arith, read-within c.args.share.now.block.items line left before.rows read, c.requires, done-rows Answers c.args.share.now.place before.rows c.loop-left.lines.text.items c.loop-left.lines.tally before.done)

pub loop-left-preserved-in_ok-add : goal.loop-left-preserved-in_ok-add
loop-left-preserved-in_ok-add g c =
    let Answers = IsSaid (IsRightAnswer (g.E.Encloser.ends c.args.calculator.now.encloser.now)) c.args.has_risk (tree.get by_bytes c.args.issues.now) in
    let before = c.loop-left.invariant in
    let line = c.next_line.result.0.now in
    let left = option_map (λ text. text.now) c.next_line.result.1 in
    let added = c.in_ok-add.ensures in
    record {
      rows = before.rows ++ row_of line ∷ [];
      read = read-row c.args.share.now.block.items c.in-Some.bytes.now line left before.rows (rw c.in-Some.is at before.read) c.next_line.ensures.parts (size-shorter c.next_line.result.1 (length c.in-Some.bytes.now) c.next_line.ensures.shorter) (sym c.is_row.ensures ∙ c.if-is_row.true);
      done = rw (added.text, added.tally)
          (done-more Answers c.args.share.now.place before.rows c.loop-left.lines.text.items c.loop-left.lines.tally (row_of line) c.said_of-said.result before.done
          (rw c.read_line.ensures at c.said_of-said.ensures) (rw added.tally at added.small));
    }
