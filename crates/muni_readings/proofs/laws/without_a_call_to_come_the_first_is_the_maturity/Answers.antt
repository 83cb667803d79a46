use Rattle.muni_readings.proofs.LawLemmas.{first_call-uncalled}
use Rattle.muni_readings.proofs.laws.without_a_call_to_come_the_first_is_the_maturity.Goals as goal

pub returns : goal.returns
returns c = first_call-uncalled
