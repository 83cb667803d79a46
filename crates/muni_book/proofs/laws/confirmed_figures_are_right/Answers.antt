use Rattle.muni_book.proofs.LawLemmas.{confirmed}
use Rattle.muni_book.proofs.laws.confirmed_figures_are_right.Goals as goal

pub returns : goal.returns
returns c = confirmed
