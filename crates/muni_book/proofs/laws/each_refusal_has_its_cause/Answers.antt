use Rattle.muni_book.proofs.LawLemmas.{caused}
use Rattle.muni_book.proofs.laws.each_refusal_has_its_cause.Goals as goal

pub returns : goal.returns
returns c = caused
