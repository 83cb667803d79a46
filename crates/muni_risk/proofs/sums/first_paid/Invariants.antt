use Rattle.std.proofs.Common.{◌≡◌, ℕ, ◌<◌}
use Rattle.muni_rule.specs.Payments.{payment_at}
use Rattle.muni_risk.proofs.sums.first_paid.Given as goal

abbrev pub invariant-loop-k : goal.invariant-loop-k
invariant-loop-k l = (i : ℕ) → i < l.k → payment_at l.flows i ≡ 0
