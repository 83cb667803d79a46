use Rattle.muni_book.proofs.LawLemmas.{lasts}
use Rattle.muni_book.proofs.laws.confirmations_are_of_last_versions.Goals as goal

pub returns : goal.returns
returns c = lasts
