use Rattle.muni_check_rows.proofs.LawLemmas.{differs-first}
use Rattle.muni_check_rows.proofs.laws.the_first_difference_is_told.Goals as goal

pub returns : goal.returns
returns c = λ ends issue asked stated shown which figures reading judged. differs-first ends issue asked stated shown which figures reading judged
