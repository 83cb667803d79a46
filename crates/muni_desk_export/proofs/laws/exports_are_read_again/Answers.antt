use Rattle.muni_desk_export.proofs.AgainTextLemmas.{read-again}
use Rattle.muni_desk_export.proofs.laws.exports_are_read_again.Goals as goal

pub returns : goal.returns
returns c = read-again c.rows_are_read_again.ensures
