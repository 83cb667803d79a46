use Rattle.muni_multi.specs.HornerLaws.{sums-narrow, last_step-encloses}
use Rattle.muni_multi.proofs.laws.sums_are_narrow.Goals as goal

pub returns-clause-sums : goal.returns-clause-sums
returns-clause-sums c = sums-narrow

pub returns-clause-last_step : goal.returns-clause-last_step
returns-clause-last_step c = last_step-encloses
