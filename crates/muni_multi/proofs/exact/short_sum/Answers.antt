use Rattle.std.proofs.Common.{refl, arith}
use Rattle.muni_rule.specs.Payments as rule
use Rattle.muni_rule.proofs.SumLemmas.{two_payments, three_payments}
use Rattle.muni_multi.proofs.ExactSums.{three-small}
use Rattle.muni_multi.proofs.exact.short_sum.Goals as goal

pub returns-then-n-eq2-clause-value : goal.returns-then-n-eq2-clause-value
returns-then-n-eq2-clause-value c =
    two_payments (rule.payment_at c.args.flows.now) 2000000 c.args.divisor c.args.flows.now.n c.payment_at-first.result c.payment_at-second.result (omega arith) (omega arith) (omega arith)

pub returns-else-n-eq2-clause-value : goal.returns-else-n-eq2-clause-value
returns-else-n-eq2-clause-value c =
    three_payments (rule.payment_at c.args.flows.now) 2000000 4000000000000 c.args.divisor c.args.flows.now.n c.payment_at-first.result c.payment_at-second.result c.payment_at-third.result
    (omega arith) refl (omega arith) (omega arith) (omega arith)

pub returns-else-n-eq2-clause-small : goal.returns-else-n-eq2-clause-small
returns-else-n-eq2-clause-small c = three-small c.args.divisor c.payment_at-first.result c.payment_at-second.result c.payment_at-third.result (omega arith) (omega arith) (omega arith) (omega arith)
