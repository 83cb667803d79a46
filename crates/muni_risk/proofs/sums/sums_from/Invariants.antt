use Rattle.std.proofs.Common.{◌≤◌}
use Rattle.muni_risk.specs.Sums.{AreSumsFrom}
use Rattle.muni_risk.proofs.sums.sums_from.Given as goal

abbrev pub invariant-loop-k : goal.invariant-loop-k
invariant-loop-k l = record {
  from : l.start ≤ l.k;
  sums : AreSumsFrom l.flows l.discount.lo l.discount.hi l.k l.sums;
}
