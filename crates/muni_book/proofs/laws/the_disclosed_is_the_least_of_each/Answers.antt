use Rattle.muni_book.proofs.EachLemmas.{disclosed-least}
use Rattle.muni_book.proofs.laws.the_disclosed_is_the_least_of_each.Goals as goal

pub returns : goal.returns
returns c = disclosed-least
