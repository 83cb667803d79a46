use Rattle.muni_export.proofs.RowLemmas.{rows-read-again}
use Rattle.muni_export.proofs.laws.rows_are_read_again.Goals as goal

pub returns : goal.returns
returns c = rows-read-again
