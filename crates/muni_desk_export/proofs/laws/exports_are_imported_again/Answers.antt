use Rattle.muni_desk_export.proofs.ExportLemmas.{imported-again, own-limit}
use Rattle.muni_desk_export.proofs.laws.exports_are_imported_again.Goals as goal

pub returns-clause-again : goal.returns-clause-again
returns-clause-again c = imported-again

pub returns-clause-enough : goal.returns-clause-enough
returns-clause-enough c = own-limit
