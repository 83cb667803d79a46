use Rattle.muni_book.proofs.LawLemmas.{reasoned}
use Rattle.muni_book.proofs.laws.each_entry_has_its_reason.Goals as goal

pub returns : goal.returns
returns c = reasoned
