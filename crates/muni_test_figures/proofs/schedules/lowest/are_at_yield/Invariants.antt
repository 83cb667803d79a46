use Rattle.std.proofs.Common.{take, All}
use Rattle.muni_sched.specs.PriceOutcome.{IsAtYield}
use Rattle.muni_test_figures.proofs.schedules.lowest.are_at_yield.Given as goal

abbrev pub invariant-loop-candidate : goal.invariant-loop-candidate
invariant-loop-candidate l = All IsAtYield (take l.candidate-index l.list)
