use Rattle.muni_risk.specs.Sums.{IsSumFrom}
use Rattle.muni_risk.specs.declared.sums.Weight.TheVariants.{Days}
use Rattle.muni_risk.proofs.sums.days_of_all.Given as goal

abbrev pub invariant-loop-k : goal.invariant-loop-k
invariant-loop-k l = IsSumFrom Days l.flows l.discount.lo l.discount.hi l.k l.days
