use Rattle.std.proofs.Common.{All}
use Rattle.muni_sched.specs.PriceOutcome.{IsPrintable}
use Rattle.muni_test_figures.proofs.schedules.outcomes.prices.Given as goal

abbrev pub invariant-loop-word : goal.invariant-loop-word
invariant-loop-word l = All IsPrintable l.prices.items
