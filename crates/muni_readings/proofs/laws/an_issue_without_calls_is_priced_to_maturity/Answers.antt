use Rattle.muni_readings.proofs.LawLemmas.{maturity-uncalled}
use Rattle.muni_readings.proofs.laws.an_issue_without_calls_is_priced_to_maturity.Goals as goal

pub returns : goal.returns
returns c = maturity-uncalled
