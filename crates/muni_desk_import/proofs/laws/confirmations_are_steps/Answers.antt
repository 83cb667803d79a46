use Rattle.muni_desk_import.proofs.ConfirmLemmas.{confirmations-steps}
use Rattle.muni_desk_import.proofs.laws.confirmations_are_steps.Goals as goal

pub returns : goal.returns
returns c = confirmations-steps c.confirmations_are_of_last_versions.ensures
