use Rattle.muni_sched.proofs.StandLemmas.{candidates-stand}
use Rattle.muni_sched.proofs.laws.candidates_stand_for_their_payments.Goals as goal

pub returns : goal.returns
returns c = candidates-stand
