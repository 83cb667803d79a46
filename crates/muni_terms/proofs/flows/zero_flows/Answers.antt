use Rattle.muni_days.specs.Day.{civil}
use Rattle.muni_rule.proofs.PaymentLemmas.{zero-payments}
use Rattle.muni_terms.proofs.flows.zero_flows.Goals as goal

pub returns-clause-payments : goal.returns-clause-payments
returns-clause-payments c =
    let payments = zero-payments (civil c.args.maturity) (civil c.args.settlement) (civil c.args.redemption) c.args.price c.requires.redeemed in
    rw (c.payment_count.ensures.value, c.redemption_amount.ensures.value) payments
