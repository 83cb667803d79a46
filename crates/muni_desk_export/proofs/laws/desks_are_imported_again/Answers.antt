use Rattle.muni_desk_export.proofs.AgainPartLemmas.{desks-again}
use Rattle.muni_desk_export.proofs.laws.desks_are_imported_again.Goals as goal

pub returns : goal.returns
returns c = desks-again
