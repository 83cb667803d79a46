use Rattle.muni_book.specs.Rules.{book_rules}
use Rattle.std.proofs.lemmas.Result.{err_from_is_err_and}
use Rattle.std.proofs.Common.{◌∙◌, Err, ap}
use Rattle.muni_desk_import.proofs.FaultLemmas.{import-ended}
use Rattle.muni_desk_import.proofs.rows.import_rows.Goals as goal

pub returns-in_err-rows_after-clause-applied : goal.returns-in_err-rows_after-clause-applied
returns-in_err-rows_after-clause-applied g c =
    let p = err_from_is_err_and c.from_residual.result c.from_residual.ensures.1 in
    (import-ended g.K.Keeper g.O.Sink (book_rules c.args.book.now.limit (g.E.Encloser.ends c.args.book.now.calculator.now.encloser.now)) c.args.text.now c.in_err-rows_after.field-0.0 c.rows_after.result c.from_residual.result
    c.args.keeper.now c.rows_after.new.keeper c.args.output.now c.rows_after.new.output c.in_err-rows_after.was (p.1 ∙ ap Err p.2) c.requires c.rows_after.ensures.applied).0

pub returns-in_err-rows_after-clause-reported : goal.returns-in_err-rows_after-clause-reported
returns-in_err-rows_after-clause-reported g c =
    let p = err_from_is_err_and c.from_residual.result c.from_residual.ensures.1 in
    (import-ended g.K.Keeper g.O.Sink (book_rules c.args.book.now.limit (g.E.Encloser.ends c.args.book.now.calculator.now.encloser.now)) c.args.text.now c.in_err-rows_after.field-0.0 c.rows_after.result c.from_residual.result
    c.args.keeper.now c.rows_after.new.keeper c.args.output.now c.rows_after.new.output c.in_err-rows_after.was (p.1 ∙ ap Err p.2) c.requires c.rows_after.ensures.applied).1
