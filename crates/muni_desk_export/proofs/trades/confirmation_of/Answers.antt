use Rattle.muni_desk_export.proofs.ToldLemmas.{told-confirmed}
use Rattle.muni_desk_export.proofs.trades.confirmation_of.Goals as goal

pub returns-clause-text : goal.returns-clause-text
returns-clause-text g c =
    told-confirmed (g.K.Keeper.tables c.args.keeper.now) c.args.key.now c.args.line.now c.in_ok-issue.issue c.confirmed_by.result.items c.requires c.in_ok-issue.ensures.found c.confirmed_by.ensures
