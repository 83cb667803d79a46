use Rattle.std.proofs.Common.{ap, pos, arith}
use Rattle.std.proofs.lemmas.Int.{ints}
use Rattle.muni_rule.specs.Accuracy.{price_amount}
use Rattle.muni_rule.specs.SinglePayment as one
use Rattle.muni_simple.specs.Single.{payment_of}
use Rattle.muni_readings.proofs.RoundedLemmas.{amount-reached}
use Rattle.muni_readings.proofs.rounded.payment_reaches.Goals as goal

pub returns : goal.returns
returns c =
    let payment = c.args.payment.now in
    let single = c.requires.single in
    let due_from = single.due.0 in
    let due_to = single.due.1 in
    let accrued_from = single.accrued.0 in
    let accrued_to = single.accrued.1 in
    amount-reached _ _ c.growth.result c.no_growth.result c.amount_of.result payment.due payment.accrued (one.growth (payment_of payment) c.args.y) (one.no_growth (payment_of payment)) (price_amount payment.basis c.args.price) c.is_worth.result
    (omega (arith, ints, due_from, due_to)) (omega (arith, ints, accrued_from, accrued_to)) c.growth.ensures.value (ap pos c.no_growth.ensures) c.amount_of.ensures.value c.is_worth.ensures
