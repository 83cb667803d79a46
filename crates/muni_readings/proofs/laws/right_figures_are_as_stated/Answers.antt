use Rattle.muni_readings.proofs.StatedLemmas.{right-stated}
use Rattle.muni_readings.proofs.laws.right_figures_are_as_stated.Goals as goal

pub returns : goal.returns
returns c = right-stated
