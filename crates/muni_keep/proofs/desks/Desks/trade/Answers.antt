use Rattle.std.proofs.Common.{sym, ap, ◌∙◌}
use Rattle.std.specs.Option.{unwrap_or}
use Rattle.std.specs.FinMap as map
use Rattle.muni_keep.specs.Trades.{by_bytes}
use Rattle.muni_keep.proofs.desks.Desks.trade.Goals as goal

pub returns-in-None : goal.returns-in-None
returns-in-None g c = sym (map.get-empty by_bytes c.args.reference.now) ∙ ap (λ found. map.get (unwrap_or found map.empty) c.args.reference.now) c.in-None.ensures
