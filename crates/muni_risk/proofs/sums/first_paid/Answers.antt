use Rattle.std.proofs.Common.{◌-◌, arith}
use Rattle.muni_risk.proofs.Turns.{last-paid}
use Rattle.muni_risk.proofs.sums.first_paid.Goals as goal

pub returns : goal.returns
returns c = record {
  within = omega (arith, c.n-last.ensures.value);
  none_before = λ i less. c.loop-k.invariant i (omega arith);
  paid = last-paid c.args.flows.now (c.n-last.result - 1) c.n-last.ensures.bounds (omega (arith, c.n-last.ensures.value));
}
