use Rattle.std.proofs.Common.{sym, ◌∙◌}
use Rattle.muni_keep.proofs.MapLemmas.{len_is}
use Rattle.muni_keep.proofs.trades.Trades.len.Goals as goal

pub returns : goal.returns
returns g c = c.len.ensures.len ∙ sym (len_is c.self.inside.trades.entries c.args.self.now c.self.view_is c.len.ensures.ordered)
