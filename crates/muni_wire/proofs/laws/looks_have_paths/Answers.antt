use Rattle.muni_wire.proofs.LookPathLemmas.{looks-have-paths, each-look-is-made}
use Rattle.muni_wire.proofs.laws.looks_have_paths.Goals as goal

pub returns : goal.returns
returns c = record { only = looks-have-paths; each = each-look-is-made }
