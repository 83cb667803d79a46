use Rattle.std.proofs.Common.{◌+◌, ◌∙◌, ◌∷◌, ap, sym, take}
use Rattle.std.proofs.lemmas.List.{take_rest}
use Rattle.muni_figures.specs.Rows.{parts}
use Rattle.muni_figures.proofs.RowLemmas.{found-at, found-nowhere}
use Rattle.muni_figures.proofs.asked.next_line.Goals as goal

pub returns-in-Some-clause-parts : goal.returns-in-Some-clause-parts
returns-in-Some-clause-parts c =
    let text = c.args.text.now in
    let end = c.in-Some.end in
    found-at 10 end text c.in-Some.ensures
    ∙ ap (λ more. take end text ∷ parts 10 more) (sym (take_rest text (end + 1)))

pub returns-in-None-clause-parts : goal.returns-in-None-clause-parts
returns-in-None-clause-parts c = found-nowhere 10 c.args.text.now c.in-None.ensures
