use Rattle.muni_sched.proofs.SameLemmas.{lowest-same}
use Rattle.muni_sched.proofs.laws.the_lowest_is_one.Goals as goal

pub returns : goal.returns
returns c = lowest-same
