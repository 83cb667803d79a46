use Rattle.std.proofs.Common.{◌-◌}
use Rattle.muni_span.specs.Rounding.{carry_of}
use Rattle.muni_span.specs.Roots.{IsRootBracket}
use Rattle.muni_span.proofs.root.end_between.Given as goal

abbrev pub invariant-loop-high : goal.invariant-loop-high
invariant-loop-high l = IsRootBracket (carry_of l.rounding) l.v l.low l.high

abbrev pub decreases-loop-high : goal.decreases-loop-high
decreases-loop-high l = l.high - l.low
