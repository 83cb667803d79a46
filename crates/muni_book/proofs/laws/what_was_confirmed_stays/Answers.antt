use Rattle.muni_book.proofs.LawLemmas.{stays}
use Rattle.muni_book.proofs.laws.what_was_confirmed_stays.Goals as goal

pub returns : goal.returns
returns c = stays
