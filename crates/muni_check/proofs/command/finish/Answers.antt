use Rattle.muni_check.proofs.command.finish.Goals as goal

pub returns-in-Some-clause-written : goal.returns-in-Some-clause-written
returns-in-Some-clause-written g c = rw c.in-Some.is c.finish_rows.ensures.written
