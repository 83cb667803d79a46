use Rattle.std.proofs.Common.{ap, ◌∙◌, []}
use Rattle.std.specs.FinMap.{insert}
use Rattle.muni_keep.specs.MemKeeper.{new_keeper}
use Rattle.muni_keep.specs.MemCabinet.{keeper_at}
use Rattle.muni_keep.proofs.KeeperLemmas.{is_put, keeper_kept}
use Rattle.muni_keep.proofs.mem_cabinet.MemCabinetCabinet.fetch.Goals as goal

pub invariant_of-self-2 : goal.invariant_of-self-2
invariant_of-self-2 c = rw (c.in_ok-keeper.ensures.left, c.in_ok-key.ensures, c.in_ok-name.ensures) (is_put c.self.inside.keepers c.args.name.now (new_keeper []))

pub returns-clause-others : goal.returns-clause-others
returns-clause-others c = λ other differs.
    ap (λ keepers. (keeper_at keepers other).tables) c.in_ok-keeper.ensures.left
    ∙ ap (λ key. (keeper_at (insert c.self.inside.keepers key (new_keeper [])) other).tables) c.in_ok-key.ensures
    ∙ ap (λ keeper. keeper.tables) (keeper_kept c.self.inside.keepers c.args.name.now other (new_keeper []) differs)
    ∙ ap (λ cabinet. (keeper_at cabinet.keepers other).tables) c.self.view_is
