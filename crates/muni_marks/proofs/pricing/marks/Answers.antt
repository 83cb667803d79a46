use Rattle.std.proofs.Common.{ap, sym, subst, ◌∙◌, take, length, arith}
use Rattle.std.specs.List.{AllZip, flat_map}
use Rattle.std.specs.BTreeMap as tree
use Rattle.std.proofs.lemmas.List.{take_all}
use Rattle.rayon.specs.Lists.{chunks_of}
use Rattle.rayon.proofs.ToStd.{chunks_of-concat}
use Rattle.muni_answer.specs.Answers.{IsRightAnswer}
use Rattle.muni_keep.specs.Trades.{by_bytes}
use Rattle.muni_marks.specs.Marks.{IsMark}
use Rattle.muni_marks.proofs.BlockLemmas.{flat_marks}
use Rattle.muni_marks.proofs.pricing.marks.Goals as goal

pub returns : goal.returns
returns g c =
    let rows = c.args.rows.now in
    let blocks = c.in_ok-blocks.blocks.items in
    let mark = IsMark (IsRightAnswer (g.E.Encloser.ends c.args.encloser.now)) (tree.get by_bytes c.args.issues.now) in
    let items = c.as_slice-block-items.ensures.value in
    let all = c.loop-block.invariant ∙ ap (λ l. flat_map (λ block. block.items) (take c.loop-block.block-index l)) items
    ∙ ap (flat_map (λ block. block.items)) (take_all c.loop-block.block-index blocks (omega (arith, c.loop-block-test.false, ap length items))) in
    subst (λ l. AllZip mark l c.loop-block.said.items) (chunks_of-concat 64 rows (omega arith))
    (subst (λ l. AllZip mark (flat_map (λ l. l) (chunks_of 64 rows)) l) (sym all) (flat_marks mark (λ block. block.items) (chunks_of 64 rows) blocks c.in_ok-blocks.ensures))
