use Rattle.std.proofs.Common.{sym}
use Rattle.std.specs.Option.{option_map}
use Rattle.muni_keep.proofs.MapLemmas.{get_found}
use Rattle.muni_keep.proofs.trades.Trades.get.Goals as goal

pub returns : goal.returns
returns g c = sym (get_found c.self.inside.trades.entries c.args.self.now c.args.reference.now (option_map (λ trade. trade.now) c.get.result) c.self.view_is c.get.ensures.value)
