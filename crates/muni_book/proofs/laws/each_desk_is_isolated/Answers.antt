use Rattle.muni_book.proofs.LawLemmas.{isolated}
use Rattle.muni_book.proofs.laws.each_desk_is_isolated.Goals as goal

pub returns : goal.returns
returns c = isolated
