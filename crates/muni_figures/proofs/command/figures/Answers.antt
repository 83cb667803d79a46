use Rattle.muni_answer.specs.Answers.{IsRightAnswer}
use Rattle.muni_desk_io.proofs.StoreLemmas.{nothing-changes}
use Rattle.muni_figures.specs.Line.{header}
use Rattle.muni_figures.proofs.ToldLemmas.{fetched-wrote}
use Rattle.muni_figures.proofs.command.figures.Goals as goal

pub returns-clause-written : goal.returns-clause-written
returns-clause-written g c =
    fetched-wrote (IsRightAnswer (g.E.Encloser.ends c.args.calculator.now.encloser.now)) c.args.options.has_risk (g.C.Cabinet.told c.args.cabinet.now c.args.store.now) (g.C.K.Keeper.tables c.in_ok-keeper.keeper)
    (header c.args.options) c.args.options.first c.figure_rows-done.result (g.I.Source.left c.args.input.now) (g.I.Source.left c.figure_rows-done.new.input)
    (g.O.Sink.bytes c.args.output.now) (g.O.Sink.bytes c.figure_rows-done.new.output) c.in_ok-keeper.ensures.tables c.figure_rows-done.ensures.written

pub returns-clause-leaves : goal.returns-clause-leaves
returns-clause-leaves g c =
    let fetched = c.in_ok-keeper.ensures in
    let back = c.give_back.ensures in
    record {
      tables = nothing-changes c.args.store.now (g.C.K.Keeper.lent_as c.in_ok-keeper.keeper) (g.C.Cabinet.told c.args.cabinet.now) (g.C.Cabinet.told c.fetch.new.self) (g.C.Cabinet.told c.give_back.new.self)
          (g.C.Cabinet.out c.fetch.new.self) (g.C.K.Keeper.tables c.in_ok-keeper.keeper) (g.C.K.Keeper.tables c.figure_rows-done.new.keeper)
          fetched.tells back.tells fetched.out fetched.others back.others fetched.tables c.figure_rows-done.ensures.unchanged back.tables;
      none_out = back.none_out;
    }
