use Rattle.std.proofs.Common.{ap, ◌∙◌}
use Rattle.muni_position.specs.Holding.{position_in}
use Rattle.muni_position.proofs.ChangeLemmas.{told_position}
use Rattle.muni_position.proofs.positioned.Positioned.position.Goals as goal

pub returns : goal.returns
returns g c =
    let self = c.args.self.now in
    told_position self.desk (g.K.Keeper.tables self.inner) self.holdings c.args.cusip.now _ self.right (c.position.ensures ∙ ap position_in c.kept.ensures)
