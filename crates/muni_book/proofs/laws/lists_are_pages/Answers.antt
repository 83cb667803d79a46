use Rattle.muni_book.proofs.LawLemmas.{pages}
use Rattle.muni_book.proofs.laws.lists_are_pages.Goals as goal

pub returns : goal.returns
returns c = pages
