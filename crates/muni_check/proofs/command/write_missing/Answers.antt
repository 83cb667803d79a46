use Rattle.muni_check.proofs.EndLemmas.{missing-none, missing-of}
use Rattle.muni_check.proofs.command.write_missing.Goals as goal

pub returns-in-Some-clause-written : goal.returns-in-Some-clause-written
returns-in-Some-clause-written g c =
    rw c.in-Some.is (missing-of c.in-Some.desk (g.K.Keeper.tables c.args.keeper.now) c.args.progress.now c.write_unseen.result (g.O.Sink.bytes c.args.output.now) (g.O.Sink.bytes c.write_unseen.new.output) c.write_unseen.ensures.written)

pub returns-in-None-clause-written : goal.returns-in-None-clause-written
returns-in-None-clause-written g c =
    rw c.in-None.is (missing-none (g.K.Keeper.tables c.args.keeper.now) c.args.progress.now (g.O.Sink.bytes c.args.output.now))
