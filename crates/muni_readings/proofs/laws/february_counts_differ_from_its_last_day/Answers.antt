use Rattle.muni_readings.proofs.LawLemmas.{february-elsewhere, february-less}
use Rattle.muni_readings.proofs.laws.february_counts_differ_from_its_last_day.Goals as goal

pub returns-clause-elsewhere : goal.returns-clause-elsewhere
returns-clause-elsewhere c = february-elsewhere

pub returns-clause-less : goal.returns-clause-less
returns-clause-less c = february-less
