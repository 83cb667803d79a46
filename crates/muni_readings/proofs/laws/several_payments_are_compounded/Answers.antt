use Rattle.muni_readings.proofs.LawLemmas.{several-compounded}
use Rattle.muni_readings.proofs.laws.several_payments_are_compounded.Goals as goal

pub returns : goal.returns
returns c = several-compounded
