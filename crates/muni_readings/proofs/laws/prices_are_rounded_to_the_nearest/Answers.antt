use Rattle.muni_readings.proofs.LawLemmas.{given-stays, series-nearest, payments-nearest}
use Rattle.muni_readings.proofs.laws.prices_are_rounded_to_the_nearest.Goals as goal

pub returns-clause-given : goal.returns-clause-given
returns-clause-given c = given-stays

pub returns-clause-series : goal.returns-clause-series
returns-clause-series c = series-nearest

pub returns-clause-payments : goal.returns-clause-payments
returns-clause-payments c = payments-nearest
