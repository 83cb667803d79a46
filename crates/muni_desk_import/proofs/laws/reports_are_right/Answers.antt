use Rattle.muni_desk_import.proofs.LineLemmas.{reports-right}
use Rattle.muni_desk_import.proofs.laws.reports_are_right.Goals as goal

pub returns : goal.returns
returns c = reports-right c.confirmed_figures_are_right.ensures
