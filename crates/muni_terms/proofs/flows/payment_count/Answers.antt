use Rattle.std.proofs.Common.{arith}
use Rattle.muni_days.specs.Day.{civil}
use Rattle.muni_rule.proofs.PaymentLemmas.{quasi_count-redeemed}
use Rattle.muni_terms.proofs.flows.payment_count.Goals as goal

pub returns-clause-range : goal.returns-clause-range
returns-clause-range c =
    let some = quasi_count-redeemed (civil c.args.anchor) (civil c.args.settlement) (civil c.args.redemption) c.requires.redeemed in
    let few = c.requires.few in
    omega arith
