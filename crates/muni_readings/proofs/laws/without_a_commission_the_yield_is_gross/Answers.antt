use Rattle.muni_readings.proofs.LawLemmas.{gross-without_fee}
use Rattle.muni_readings.proofs.laws.without_a_commission_the_yield_is_gross.Goals as goal

pub returns : goal.returns
returns c = gross-without_fee
