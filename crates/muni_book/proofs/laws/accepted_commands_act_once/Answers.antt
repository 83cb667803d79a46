use Rattle.muni_book.proofs.LawLemmas.{once}
use Rattle.muni_book.proofs.laws.accepted_commands_act_once.Goals as goal

pub returns : goal.returns
returns c = once
