use Rattle.std.proofs.Common.{ap, ◌∙◌}
use Rattle.muni_desk_io.proofs.StoreLemmas.{nothing-changes}
use Rattle.muni_position.proofs.listing.fetch_lines.Goals as goal

pub returns-clause-leaves : goal.returns-clause-leaves
returns-clause-leaves g c =
    let fetched = c.in_ok-fetch.ensures in
    let back = c.give_back.ensures in
    let keeper = c.in_ok-fetch.field-0 in
    let same = ap g.C.K.Keeper.tables c.back.ensures ∙ c.lines_of-lines.ensures.unchanged ∙ ap g.C.K.Keeper.tables c.over-positioned.ensures.inner in
    record {
      tables = nothing-changes c.args.store.now (g.C.K.Keeper.lent_as keeper) (g.C.Cabinet.told c.args.cabinet.now) (g.C.Cabinet.told c.fetch.new.self) (g.C.Cabinet.told c.give_back.new.self)
          (g.C.Cabinet.out c.fetch.new.self) (g.C.K.Keeper.tables keeper) (g.C.K.Keeper.tables c.back.result)
          fetched.tells back.tells fetched.out fetched.others back.others fetched.tables same back.tables;
      none_out = back.none_out;
    }
