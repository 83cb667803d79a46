use Rattle.muni_simple.proofs.GrowthLemmas.{growth-above}
use Rattle.muni_simple.proofs.laws.growth_is_above_zero.Goals as goal

pub returns : goal.returns
returns c = growth-above
