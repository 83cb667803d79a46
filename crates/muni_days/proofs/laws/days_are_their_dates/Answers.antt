use Rattle.std.proofs.Common.{ap}
use Rattle.muni_days.specs.Day.{civil}
use Rattle.muni_days.proofs.DayLemmas.{same_date}
use Rattle.muni_days.proofs.laws.days_are_their_dates.Goals as goal

pub returns-clause-same : goal.returns-clause-same
returns-clause-same c = λ day other. (λ same. ap civil same, same_date day other)
