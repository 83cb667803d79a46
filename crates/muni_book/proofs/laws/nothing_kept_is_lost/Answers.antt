use Rattle.muni_book.proofs.LawLemmas.{kept}
use Rattle.muni_book.proofs.laws.nothing_kept_is_lost.Goals as goal

pub returns : goal.returns
returns c = kept
