use Rattle.muni_import.proofs.ColumnLemmas.{name-is-first, count-is-second, least-is-told, others-are-commands}
use Rattle.muni_import.proofs.laws.the_least_bad_column_is_told.Goals as goal

pub returns-clause-name : goal.returns-clause-name
returns-clause-name c = name-is-first

pub returns-clause-count : goal.returns-clause-count
returns-clause-count c = count-is-second

pub returns-clause-column : goal.returns-clause-column
returns-clause-column c = least-is-told

pub returns-clause-commands : goal.returns-clause-commands
returns-clause-commands c = others-are-commands
