use Rattle.std.proofs.Common.{All}
use Rattle.muni_sched.specs.FigureKind.{Yield}
use Rattle.muni_sched.specs.Figures.{IsOf}
use Rattle.muni_test_figures.proofs.schedules.outcomes.yields.Given as goal

abbrev pub invariant-loop-word : goal.invariant-loop-word
invariant-loop-word l = All (IsOf Yield) l.yields.items
