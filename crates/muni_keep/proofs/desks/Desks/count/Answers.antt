use Rattle.std.proofs.Common.{sym, ap, ◌∙◌}
use Rattle.std.specs.Option.{unwrap_or}
use Rattle.std.specs.FinMap as map
use Rattle.muni_keep.specs.History.{History}
use Rattle.muni_keep.specs.Trades.{by_bytes}
use Rattle.muni_keep.proofs.desks.Desks.count.Goals as goal

pub returns-in-None : goal.returns-in-None
returns-in-None g c = sym (map.len-empty by_bytes (History g.row.V.Denot)) ∙ ap (λ found. map.len (unwrap_or found map.empty)) c.in-None.ensures
