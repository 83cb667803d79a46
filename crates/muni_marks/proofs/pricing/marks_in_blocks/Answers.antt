use Rattle.std.proofs.Common.{ap, ◌∙◌, subst, max}
use Rattle.std.specs.Prelude.{IfOk}
use Rattle.std.specs.List.{AllZip}
use Rattle.std.specs.BTreeMap as tree
use Rattle.rayon.specs.Lists.{chunks_of}
use Rattle.rayon.proofs.ToStd.{slice-AllZip}
use Rattle.muni_answer.specs.Answers.{IsRightAnswer}
use Rattle.muni_keep.specs.Trades.{by_bytes}
use Rattle.muni_marks.specs.Marks.{IsMark}
use Rattle.muni_marks.proofs.BlockLemmas.{blocks_of}
use Rattle.muni_marks.proofs.pricing.marks_in_blocks.Goals as goal

pub returns-in-Ok : goal.returns-in-Ok
returns-in-Ok g c =
    let rows = c.args.rows.now in
    let blocks = chunks_of 64 rows in
    let slice = ap (λ it. it.base.slice.now) c.map.ensures.base ∙ ap (λ it. it.slice.now) c.with_min_len.ensures.base ∙ c.par_chunks.ensures.slice in
    let size = ap (λ it. it.base.size) c.map.ensures.base ∙ ap (λ it. it.size) c.with_min_len.ensures.base ∙ c.par_chunks.ensures.size in
    let answers = c.in-Ok.ensures in
    let chain = answers.1 in
    let shown = chain.1 ∙ ap (λ n. chunks_of (max n 1) c.map.result.base.base.slice.now) size ∙ ap (chunks_of 64) slice in
    let f = c.map.result.f in
    let mark = IsMark (IsRightAnswer (g.E.Encloser.ends f.3.now)) (tree.get by_bytes f.2.now) in
    let each = slice-AllZip chain.0 blocks shown (λ block answer. IfOk answer (λ said. AllZip mark block said.items)) answers.0 chain.2 in
    subst (λ f. IfOk c.in-Ok.blocks (λ parts. AllZip (λ block part. AllZip (IsMark (IsRightAnswer (g.E.Encloser.ends f.3.now)) (tree.get by_bytes f.2.now)) block part.items) blocks parts.items)) c.map.ensures.f (blocks_of mark blocks answers.0 c.in-Ok.blocks each answers.2)
