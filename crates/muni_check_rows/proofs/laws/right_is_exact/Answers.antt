use Rattle.muni_check_rows.proofs.LawLemmas.{right-if, right-only}
use Rattle.muni_check_rows.proofs.laws.right_is_exact.Goals as goal

pub returns : goal.returns
returns c = λ ends issue asked stated. (right-only ends issue asked stated, right-if ends issue asked stated)
