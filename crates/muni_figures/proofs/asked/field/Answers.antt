use Rattle.std.proofs.Common.{◌-◌, sym}
use Rattle.muni_figures.proofs.RowLemmas.{field-past, field-within}
use Rattle.muni_figures.proofs.asked.field.Goals as goal

pub returns-in-Some : goal.returns-in-Some
returns-in-Some c =
    let found = c.in-Some.ensures.lookup in
    sym (field-within c.args.fields.now (c.args.column - 1) c.in-Some.field.now found.3.0 found.1)

pub returns-in-None : goal.returns-in-None
returns-in-None c = sym (field-past c.args.fields.now (c.args.column - 1) c.in-None.ensures.lookup.3)
