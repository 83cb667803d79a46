use Rattle.muni_check.specs.Cache.{IsSoundCache}
use Rattle.muni_check.proofs.ToldLemmas.{if-told}
use Rattle.muni_check.proofs.cache.IssueCache.hold.Goals as goal

pub ask-requires : goal.ask-requires
ask-requires g c =
    if-told (g.K.Keeper.tables c.args.keeper.now) (λ t. IsSoundCache t c.args.self.now) (λ t. IsSoundCache t c.make_room.new.self) (λ t sound. c.make_room.ensures t sound) c.requires
