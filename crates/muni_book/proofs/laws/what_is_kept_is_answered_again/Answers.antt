use Rattle.muni_book.proofs.LawLemmas.{again}
use Rattle.muni_book.proofs.laws.what_is_kept_is_answered_again.Goals as goal

pub returns : goal.returns
returns c = again
