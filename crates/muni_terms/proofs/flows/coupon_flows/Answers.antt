use Rattle.muni_days.specs.Day.{civil}
use Rattle.muni_rule.proofs.PaymentLemmas.{coupon-payments}
use Rattle.muni_terms.proofs.flows.coupon_flows.Goals as goal

pub returns-clause-payments : goal.returns-clause-payments
returns-clause-payments c =
    let payments = coupon-payments (civil c.args.dated) (civil c.args.first) (civil c.args.settlement) (civil c.args.redemption) c.args.coupon c.args.price c.requires.redeemed in
    rw (c.payment_count.ensures.value, c.unpaid_count.ensures.value, c.first_interest.ensures.value, c.half_year_interest.ensures.value, c.redemption_amount.ensures.value) payments
