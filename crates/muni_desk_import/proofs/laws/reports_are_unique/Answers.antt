use Rattle.muni_desk_import.proofs.RunLemmas.{reports-unique}
use Rattle.muni_desk_import.proofs.laws.reports_are_unique.Goals as goal

pub returns : goal.returns
returns c = reports-unique c.replies_are_unique.ensures
