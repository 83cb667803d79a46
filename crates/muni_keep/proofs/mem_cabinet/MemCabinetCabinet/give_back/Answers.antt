use Rattle.std.proofs.Common.{◌≡◌, sym, ap, ◌∙◌, Some}
use Rattle.muni_keep.specs.MemCabinet.{keeper_at}
use Rattle.muni_keep.proofs.KeeperLemmas.{keeper_put, keeper_kept}
use Rattle.muni_keep.proofs.mem_cabinet.MemCabinetCabinet.give_back.Goals as goal

pub returns-in-Some-clause-tables : goal.returns-in-Some-clause-tables
returns-in-Some-clause-tables c =
    let out : Some c.in-Some.name ≡ c.args.self.now.out = sym c.in-Some.is ∙ c.take.ensures.value ∙ ap (λ cabinet. cabinet.out) c.self.view_is in
    rw (← out, c.replace.ensures) (ap (λ keeper. keeper.tables) (keeper_put c.self.inside.keepers c.in-Some.name c.args.keeper))

pub returns-in-Some-clause-others : goal.returns-in-Some-clause-others
returns-in-Some-clause-others c =
    let out : Some c.in-Some.name ≡ c.args.self.now.out = sym c.in-Some.is ∙ c.take.ensures.value ∙ ap (λ cabinet. cabinet.out) c.self.view_is in
    rw (← out) (λ other differs.
    ap (λ keepers. (keeper_at keepers other).tables) c.replace.ensures
    ∙ ap (λ keeper. keeper.tables) (keeper_kept c.self.inside.keepers c.in-Some.name other c.args.keeper differs)
    ∙ ap (λ cabinet. (keeper_at cabinet.keepers other).tables) c.self.view_is)
