use Rattle.std.proofs.Common.{◌≡◌, ◌+◌}
use Rattle.muni_test_base.proofs.objects.tick_often.Given as goal

abbrev pub invariant-loop-turn : goal.invariant-loop-turn
invariant-loop-turn g l = l.steps ≡ l.fn.steps + l._turn
