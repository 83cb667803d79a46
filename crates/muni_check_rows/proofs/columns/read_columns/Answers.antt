use Rattle.std.proofs.Common.{◌∙◌, sym, arith}
use Rattle.std.proofs.lemmas.Result.{err_from_is_err_and}
use Rattle.csv.specs.Records.{fields_of}
use Rattle.muni_check_rows.proofs.ColumnLemmas.{column-added, column-refused, columns-all}
use Rattle.muni_check_rows.proofs.columns.read_columns.Goals as goal

pub loop-place-preserved : goal.loop-place-preserved
loop-place-preserved c =
    let added = rw c.name_at.ensures at c.in_ok-add_column.ensures.added in
    sym (column-added c.loop-place.columns.items c.add_column.new.columns.items (fields_of c.args.names.now) c.loop-place.place (omega arith) added) ∙ c.loop-place.invariant

pub returns-in_err-add_column-clause-refused : goal.returns-in_err-add_column-clause-refused
returns-in_err-add_column-clause-refused c =
    let p = err_from_is_err_and c.from_residual.result c.from_residual.ensures.1 in
    let refused = rw c.name_at.ensures at c.in_err-add_column.ensures.refused in
    rw (p.1, p.2) (sym c.loop-place.invariant ∙ column-refused c.loop-place.columns.items (fields_of c.args.names.now) c.loop-place.place c.in_err-add_column.field-0.0 (omega arith) refused)

pub returns-clause-named : goal.returns-clause-named
returns-clause-named c = sym c.loop-place.invariant ∙ columns-all c.loop-place.columns.items (fields_of c.args.names.now) c.loop-place.place (omega arith)
