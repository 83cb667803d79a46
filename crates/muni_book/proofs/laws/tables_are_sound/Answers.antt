use Rattle.muni_book.proofs.LawLemmas.{sound}
use Rattle.muni_book.proofs.laws.tables_are_sound.Goals as goal

pub returns : goal.returns
returns c = sound
