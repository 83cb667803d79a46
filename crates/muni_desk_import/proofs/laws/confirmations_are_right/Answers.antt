use Rattle.muni_desk_import.proofs.ConfirmLemmas.{confirmations-right}
use Rattle.muni_desk_import.proofs.laws.confirmations_are_right.Goals as goal

pub returns : goal.returns
returns c = confirmations-right c.confirmed_figures_are_right.ensures
