use Rattle.std.proofs.Common.{arith}
use Rattle.std.proofs.lemmas.Int.{ints}
use Rattle.muni_days.proofs.months.month_index_on.Goals as goal

pub returns : goal.returns
returns c = omega (arith, ints)
