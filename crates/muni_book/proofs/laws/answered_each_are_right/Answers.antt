use Rattle.muni_book.proofs.EachLemmas.{each-right, each-unique}
use Rattle.muni_book.proofs.laws.answered_each_are_right.Goals as goal

pub returns-clause-right : goal.returns-clause-right
returns-clause-right c = each-right

pub returns-clause-one : goal.returns-clause-one
returns-clause-one c = each-unique
