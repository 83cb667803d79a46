use Rattle.muni_sched.proofs.EachDateLemmas.{lowest-at_most}
use Rattle.muni_sched.proofs.laws.the_lowest_is_at_most_that_of_each_date.Goals as goal

pub returns : goal.returns
returns c = lowest-at_most
