use Rattle.std.proofs.Common.{◌≡◌, ◌-◌}
use Rattle.muni_rule.specs.Payments as rule
use Rattle.muni_multi.specs.Horner.{sum_low, sum_high}
use Rattle.muni_multi.proofs.outside.discounted_sum.Given as goal

abbrev pub invariant-loop-k : goal.invariant-loop-k
invariant-loop-k l = record {
  low : l.sum.lo ≡ sum_low (rule.payment_at l.flows) l.discount.lo (l.flows.n - l.k) l.k;
  high : l.sum.hi ≡ sum_high (rule.payment_at l.flows) l.discount.hi (l.flows.n - l.k) l.k;
}
