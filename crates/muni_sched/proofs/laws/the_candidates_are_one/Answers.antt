use Rattle.muni_sched.proofs.CandidateLemmas.{one-list}
use Rattle.muni_sched.proofs.laws.the_candidates_are_one.Goals as goal

pub returns : goal.returns
returns c = one-list
