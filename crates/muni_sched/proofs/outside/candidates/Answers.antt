use Rattle.std.proofs.Common.{rules, ◌≡◌, take, subst, sym}
use Rattle.std.specs.Prelude.{AllPairs}
use Rattle.muni_sched.specs.Candidates.{IsRedeemedEarlier}
use Rattle.muni_sched.proofs.outside.candidates.Goals as goal

pub returns-clause-rising : goal.returns-clause-rising
returns-clause-rising c =
    let items : c.try_extend_from_slice.new.self.items ≡ take c.put_candidates-count.result c.put_candidates-count.new.slots = search rules in
    subst (AllPairs IsRedeemedEarlier) (sym items) c.put_candidates-count.ensures.rising
