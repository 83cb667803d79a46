use Rattle.std.proofs.Common.{arith}
use Rattle.muni_risk.specs.Sums.{IsSumFrom}
use Rattle.muni_risk.specs.declared.sums.Weight.{Weight}
use Rattle.muni_risk.specs.declared.sums.Weight.TheVariants.{One, Days, DaysTwice}
use Rattle.muni_risk.proofs.Turns.{no-payments}
use Rattle.muni_risk.proofs.sums.sums_from.Goals as goal

pub loop-k-init : goal.loop-k-init
loop-k-init c =
    let none : (weight : Weight) → IsSumFrom weight c.args.flows.now c.args.discount.lo c.args.discount.hi c.n-k.result c.exactly-none.result
    = λ weight. no-payments weight c.args.flows.now c.args.discount.lo c.args.discount.hi c.n-k.result c.exactly-none.result c.n-k.ensures.value c.exactly-none.ensures.lo c.exactly-none.ensures.hi in
    record {
      from = omega arith;
      sums = record { one = none One; days = none Days; days_twice = none DaysTwice };
    }
