use Rattle.muni_desk_io.proofs.StoreLemmas.{nothing-changes}
use Rattle.muni_desk_export.proofs.kept.write_kept.Goals as goal

pub returns-clause-leaves : goal.returns-clause-leaves
returns-clause-leaves g c =
    let fetched = c.in_ok-keeper.ensures in
    let back = c.give_back.ensures in
    record {
      tables = nothing-changes c.args.store.now (g.C.K.Keeper.lent_as c.in_ok-keeper.keeper) (g.C.Cabinet.told c.args.cabinet.now) (g.C.Cabinet.told c.fetch.new.self) (g.C.Cabinet.told c.give_back.new.self)
          (g.C.Cabinet.out c.fetch.new.self) (g.C.K.Keeper.tables c.in_ok-keeper.keeper) (g.C.K.Keeper.tables c.write_over-done.new.keeper)
          fetched.tells back.tells fetched.out fetched.others back.others fetched.tables c.write_over-done.ensures.unchanged back.tables;
      none_out = back.none_out;
    }
