use Rattle.muni_desk_import.proofs.RunLemmas.{imports-run}
use Rattle.muni_desk_import.proofs.laws.imports_are_runs.Goals as goal

pub returns : goal.returns
returns c = imports-run
