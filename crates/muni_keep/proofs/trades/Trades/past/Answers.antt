use Rattle.muni_keep.proofs.PastLemmas.{past_is}
use Rattle.muni_keep.proofs.trades.Trades.past.Goals as goal

pub returns : goal.returns
returns g c = past_is c.self.inside.trades.entries c.range.result c.args.self.now c.args.after.now _ c.self.view_is c.range.ensures.ordered c.bound_past.ensures (c.range.ensures.between tt)
