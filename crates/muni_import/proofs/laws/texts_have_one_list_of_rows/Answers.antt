use Rattle.muni_import.proofs.LawLemmas.{text-has-rows, text-has-no-others}
use Rattle.muni_import.proofs.laws.texts_have_one_list_of_rows.Goals as goal

pub returns-clause-some : goal.returns-clause-some
returns-clause-some c = text-has-rows

pub returns-clause-no_other : goal.returns-clause-no_other
returns-clause-no_other c = text-has-no-others
