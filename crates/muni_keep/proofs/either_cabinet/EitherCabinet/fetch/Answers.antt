use Rattle.std.proofs.Common.{◌≡◌, Some, rules}
use Rattle.muni_keep.specs.EitherName.{journal_name}
use Rattle.muni_keep.proofs.EitherLemmas.{others_told}
use Rattle.muni_keep.proofs.either_cabinet.EitherCabinet.fetch.Goals as goal

pub returns-in-Ok-clause-others : goal.returns-in-Ok-clause-others
returns-in-Ok-clause-others g c =
    let self = c.args.self.now in
    let is : journal_name c.args.name.now ≡ Some c.in-Some.rest.now = search rules in
    others_told c.args.name.now c.in-Some.rest.now (g.A.Cabinet.told self.first) (g.B.Cabinet.told self.second) (g.B.Cabinet.told c.fetch.new.self) is c.fetch.ensures.others
