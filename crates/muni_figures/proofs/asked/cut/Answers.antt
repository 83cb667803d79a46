use Rattle.std.proofs.Common.{◌+◌, ◌∙◌, ◌∷◌, ap, sym, take}
use Rattle.std.proofs.lemmas.List.{take_rest}
use Rattle.muni_figures.specs.Rows.{parts}
use Rattle.muni_figures.proofs.RowLemmas.{parts-cut, parts-none}
use Rattle.muni_figures.proofs.asked.cut.Goals as goal

pub returns-in-Some-clause-parts : goal.returns-in-Some-clause-parts
returns-in-Some-clause-parts c =
    let text = c.args.text.now in
    let end = c.in-Some.end in
    parts-cut c.args.byte end text (sym c.in-Some.ensures.place)
    ∙ ap (λ more. take end text ∷ parts c.args.byte more) (sym (take_rest text (end + 1)))

pub returns-in-None-clause-parts : goal.returns-in-None-clause-parts
returns-in-None-clause-parts c = parts-none c.args.byte c.args.text.now (sym c.in-None.ensures.place)
