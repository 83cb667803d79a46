use Rattle.muni_desk_export.proofs.WantedLemmas.{of-commands}
use Rattle.muni_desk_export.proofs.laws.exports_are_of_commands.Goals as goal

pub returns : goal.returns
returns c = of-commands
