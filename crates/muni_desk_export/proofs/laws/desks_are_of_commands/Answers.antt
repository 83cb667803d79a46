use Rattle.muni_desk_export.proofs.PartTextLemmas.{of-desk-commands}
use Rattle.muni_desk_export.proofs.laws.desks_are_of_commands.Goals as goal

pub returns : goal.returns
returns c = of-desk-commands
