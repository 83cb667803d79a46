use Rattle.muni_book.proofs.LawLemmas.{unique}
use Rattle.muni_book.proofs.laws.replies_are_unique.Goals as goal

pub returns : goal.returns
returns c = unique
