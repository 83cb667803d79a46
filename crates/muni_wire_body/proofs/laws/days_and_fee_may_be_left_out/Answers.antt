use Rattle.muni_wire_body.proofs.LeftOutLemmas.{left-out}
use Rattle.muni_wire_body.proofs.laws.days_and_fee_may_be_left_out.Goals as goal

pub returns : goal.returns
returns c = left-out
