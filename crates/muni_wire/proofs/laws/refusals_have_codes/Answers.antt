use Rattle.muni_wire.proofs.CodeLemmas.{refusals-have-codes}
use Rattle.muni_wire.proofs.laws.refusals_have_codes.Goals as goal

pub returns : goal.returns
returns c = refusals-have-codes
