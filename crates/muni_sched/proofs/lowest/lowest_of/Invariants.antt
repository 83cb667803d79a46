use Rattle.std.proofs.Common.{map}
use Rattle.muni_sched.proofs.RankLemmas.{IsLeast}
use Rattle.muni_sched.proofs.lowest.lowest_of.Given as goal

abbrev pub invariant-loop-c : goal.invariant-loop-c
invariant-loop-c g l = IsLeast g.O.Ranked.kind (map g.O.Ranked.outcome l.outcomes) l.c l.candidate
