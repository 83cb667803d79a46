use Rattle.std.proofs.lemmas.Result.{err_from_is_err_and}
use Rattle.muni_check.proofs.EndLemmas.{missing-failed, total-after}
use Rattle.muni_check.proofs.command.finish_rows.Goals as goal

pub returns-in_err-missing-clause-written : goal.returns-in_err-missing-clause-written
returns-in_err-missing-clause-written g c =
    let p = err_from_is_err_and c.from_residual.result c.from_residual.ensures.1 in
    rw (p.1, p.2) (missing-failed c.args.desk.now (g.K.Keeper.tables c.args.keeper.now) c.args.progress.now c.in_err-missing.field-0.0 (g.O.Sink.bytes c.args.output.now) (g.O.Sink.bytes c.write_missing.new.output) c.in_err-missing.ensures.written)

pub returns-clause-written : goal.returns-clause-written
returns-clause-written g c =
    total-after c.args.desk.now (g.K.Keeper.tables c.args.keeper.now) c.args.progress.now c.in_ok-missing.missing c.write_total.result (g.O.Sink.bytes c.args.output.now) (g.O.Sink.bytes c.write_missing.new.output) (g.O.Sink.bytes c.write_total.new.output)
    c.in_ok-missing.ensures.written (rw c.with_missing.ensures at c.write_total.ensures.written)
