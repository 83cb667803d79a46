use Rattle.muni_desk.proofs.CompletenessLemmas.{completed}
use Rattle.muni_desk.proofs.laws.commands_are_completed.Goals as goal

pub returns : goal.returns
returns g c = completed g.I.Source g.O.Sink g.C.Cabinet g.D.Door
