use Rattle.std.proofs.Common.{◌∙◌, ap, drop, sym}
use Rattle.std.specs.Prelude.{if◌then◌else◌}
use Rattle.std.proofs.lemmas.List.{take_rest}
use Rattle.muni_figures.proofs.BlockLemmas.{marked}
use Rattle.muni_figures.proofs.blocks.without_mark.Goals as goal

pub returns-then-has_mark : goal.returns-then-has_mark
returns-then-has_mark c =
    let text = c.args.bytes.now in
    take_rest text 3 ∙ sym (marked text ∙ ap (λ t. if t then drop 3 text else text) (sym c.has_mark.ensures ∙ c.if-has_mark.true))

pub returns-else-has_mark : goal.returns-else-has_mark
returns-else-has_mark c =
    let text = c.args.bytes.now in
    sym (marked text ∙ ap (λ t. if t then drop 3 text else text) (sym c.has_mark.ensures ∙ c.if-has_mark.false))
