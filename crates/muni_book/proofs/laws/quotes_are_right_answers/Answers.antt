use Rattle.muni_book.proofs.LawLemmas.{quotes}
use Rattle.muni_book.proofs.laws.quotes_are_right_answers.Goals as goal

pub returns : goal.returns
returns c = quotes
