use Rattle.std.proofs.Common.{Err, inl, ap, refl, rules, arith, ◌∙◌}
use Rattle.std.proofs.lemmas.Result.{err_from_is_err_and}
use Rattle.muni_desk_serve.specs.Rules.{serving_rules}
use Rattle.muni_desk_serve.specs.Serves.{traffic}
use Rattle.muni_desk_serve.specs.declared.fault.ServeFault.TheVariants as fault
use Rattle.muni_desk_serve.proofs.StoreLemmas.{none-over, unfetched, unfetched-counted, run-over}
use Rattle.muni_desk_serve.proofs.connections.serve.Goals as goal

pub returns-in_default-clause-served : goal.returns-in_default-clause-served
returns-in_default-clause-served g c =
    let told = g.C.Cabinet.told c.args.cabinet.now c.args.store.now in
    let faults = g.C.Cabinet.faults c.args.cabinet.now in
    record {
      run = none-over (serving_rules c.args.book.now.limit (g.E.Encloser.ends c.args.book.now.calculator.now.encloser.now)) (traffic g.D.L.Source.left g.D.L.Sink.bytes g.D.L.Source.faults g.D.L.Sink.faults)
          c.args.port c.args.connections (g.D.Door.state c.args.door.now) told told faults faults (Err fault.NoMemory) refl (omega arith) (λ door. inl refl);
      bound = search rules;
      unopened = λ _. refl;
      store_fault = search rules;
      door_fault = search rules;
    }

pub returns-in_err-keeper-clause-served : goal.returns-in_err-keeper-clause-served
returns-in_err-keeper-clause-served g c =
    let p = err_from_is_err_and c.from_residual.result c.from_residual.ensures.1 in
    record {
      run = unfetched (serving_rules c.args.book.now.limit (g.E.Encloser.ends c.args.book.now.calculator.now.encloser.now)) (traffic g.D.L.Source.left g.D.L.Sink.bytes g.D.L.Source.faults g.D.L.Sink.faults)
          c.args.port c.args.connections (g.D.Door.state c.args.door.now) (g.C.Cabinet.told c.args.cabinet.now c.args.store.now) (g.C.Cabinet.told c.fetch.new.self c.args.store.now)
          (g.C.Cabinet.faults c.args.cabinet.now) (g.C.Cabinet.faults c.fetch.new.self) c.in_err-keeper.field-0.0 c.from_residual.result (p.1 ∙ ap Err p.2)
          (c.in_err-keeper.ensures.unchanged c.args.store.now) c.fetch.ensures.later;
      bound = search rules;
      unopened = λ _. refl;
      store_fault = unfetched-counted c.fetch.result c.in_err-keeper.field-0.0 c.from_residual.result (g.C.Cabinet.faults c.args.cabinet.now) (g.C.Cabinet.faults c.fetch.new.self)
          c.in_err-keeper.was (p.1 ∙ ap Err p.2) c.fetch.ensures.failed;
      door_fault = search rules;
    }

pub returns-clause-served : goal.returns-clause-served
returns-clause-served g c =
    let fetched = c.in_ok-keeper.ensures in
    let served = c.serve_links-end.ensures in
    let back = c.give_back.ensures in
    record {
      run = run-over (serving_rules c.args.book.now.limit (g.E.Encloser.ends c.args.book.now.calculator.now.encloser.now)) (traffic g.D.L.Source.left g.D.L.Sink.bytes g.D.L.Source.faults g.D.L.Sink.faults)
          c.args.port c.args.connections (g.D.Door.state c.args.door.now) (g.D.Door.state c.serve_links-end.new.door) c.args.store.now (g.C.K.Keeper.lent_as c.in_ok-keeper.keeper)
          (g.C.Cabinet.told c.args.cabinet.now) (g.C.Cabinet.told c.fetch.new.self) (g.C.Cabinet.told c.give_back.new.self) (g.C.Cabinet.out c.fetch.new.self)
          (g.C.K.Keeper.tables c.in_ok-keeper.keeper) (g.C.K.Keeper.tables c.serve_links-end.new.keeper)
          (g.C.Cabinet.faults c.args.cabinet.now) (g.C.Cabinet.faults c.fetch.new.self) (g.C.Cabinet.faults c.give_back.new.self)
          (g.C.K.Keeper.faults c.in_ok-keeper.keeper) (g.C.K.Keeper.faults c.serve_links-end.new.keeper) c.serve_links-end.result
          served.run fetched.count fetched.later back.counted (fetched.tells c.args.store.now) fetched.out fetched.tables served.keeps.tells back.tables;
      bound = served.bound;
      unopened = λ store. absurd (served.no_store_fault store);
      store_fault = λ store. absurd (served.no_store_fault store);
      door_fault = served.door_fault;
    }
