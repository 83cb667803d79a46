use Rattle.std.proofs.Common.{sym, ◌∙◌, arith}
use Rattle.muni_rule.proofs.SeriesLemmas.{payment-early, payment-last}
use Rattle.muni_multi.proofs.payments.payment_at.Goals as goal

pub returns-then-k-n-clause-value : goal.returns-then-k-n-clause-value
returns-then-k-n-clause-value c =
    let last = payment-last c.args.flows.now c.args.k c.n.ensures.bounds.skip (omega arith) in
    omega (arith, last)

pub returns-else-k-n-clause-value : goal.returns-else-k-n-clause-value
returns-else-k-n-clause-value c =
    let early = payment-early c.args.flows.now c.args.k c.n.ensures.bounds.skip (omega arith) in
    c.interest_at-interest.ensures.value ∙ sym early
