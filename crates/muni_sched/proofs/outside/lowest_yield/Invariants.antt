use Rattle.std.proofs.Common.{◌≡◌, ◌+◌}
use Rattle.muni_sched.proofs.outside.lowest_yield.Given as goal

abbrev pub invariant-loop-round : goal.invariant-loop-round
invariant-loop-round g l = l.steps ≡ l.fn.steps + l._round
