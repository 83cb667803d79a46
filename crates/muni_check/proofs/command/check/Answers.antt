use Rattle.std.proofs.lemmas.Result.{err_from_is_err_and}
use Rattle.muni_desk_io.proofs.StoreLemmas.{nothing-changes}
use Rattle.muni_check.specs.Judging.{over}
use Rattle.muni_check.proofs.FetchedLemmas.{fetched-wrote, unfetched-wrote}
use Rattle.muni_check.proofs.command.check.Goals as goal

pub returns-in_err-keeper-clause-written : goal.returns-in_err-keeper-clause-written
returns-in_err-keeper-clause-written g c =
    let by = over (g.E.Encloser.ends c.args.calculator.now.encloser.now) c.args.desk.now (g.C.Cabinet.told c.args.cabinet.now c.args.store.now) in
    let p = err_from_is_err_and c.from_residual.result c.from_residual.ensures.1 in
    rw (p.1, p.2)
    (unfetched-wrote by c.in_err-keeper.field-0.0 (g.I.Source.left c.args.input.now) (g.I.Source.left c.args.input.now) (g.O.Sink.bytes c.args.output.now))

pub returns-clause-written : goal.returns-clause-written
returns-clause-written g c =
    fetched-wrote (g.E.Encloser.ends c.args.calculator.now.encloser.now) c.args.desk.now c.check_over-done.result (g.I.Source.left c.check_over-done.new.input) (g.O.Sink.bytes c.args.output.now) (g.O.Sink.bytes c.check_over-done.new.output)
    (g.C.Cabinet.told c.args.cabinet.now c.args.store.now) (g.C.K.Keeper.tables c.in_ok-keeper.keeper) (g.I.Source.left c.args.input.now) c.in_ok-keeper.ensures.tables c.check_over-done.ensures.written

pub returns-clause-leaves : goal.returns-clause-leaves
returns-clause-leaves g c =
    let fetched = c.in_ok-keeper.ensures in
    let back = c.give_back.ensures in
    record {
      tables = nothing-changes c.args.store.now (g.C.K.Keeper.lent_as c.in_ok-keeper.keeper) (g.C.Cabinet.told c.args.cabinet.now) (g.C.Cabinet.told c.fetch.new.self) (g.C.Cabinet.told c.give_back.new.self)
          (g.C.Cabinet.out c.fetch.new.self) (g.C.K.Keeper.tables c.in_ok-keeper.keeper) (g.C.K.Keeper.tables c.check_over-done.new.keeper)
          fetched.tells back.tells fetched.out fetched.others back.others fetched.tables c.check_over-done.ensures.unchanged back.tables;
      none_out = back.none_out;
    }
