use Rattle.std.proofs.Common.{◌<◌, arith}
use Rattle.std.proofs.lemmas.Bool.Decides.{nat_tests}
use Rattle.muni_rule.specs.Civil.{Civil}
use Rattle.muni_rule.specs.PaymentLaws.{IsCouponRedemption}
use Rattle.muni_rule.specs.QuasiDates.{quasi_count}
use Rattle.muni_rule.specs.Payments.{unpaid_count}
use Rattle.muni_days.specs.Day.{civil}
use Rattle.muni_days.proofs.CivilLemmas.{is_civil, is_of_desk}
use Rattle.muni_days.proofs.OrderLemmas.{before-place}
use Rattle.muni_rule.proofs.PaymentLemmas.{quasi_count-first, is_interest}
use Rattle.muni_terms.proofs.flows.unpaid_count.Goals as goal

pub overflow_sub-result : goal.overflow_sub-result
overflow_sub-result c =
    let later = c.requires.later in
    let counted = quasi_count-first (civil c.args.first) (civil c.args.settlement) (is_civil c.args.first) later.redeemed.anchor_day (is_of_desk c.args.first).year_to later.settled (omega (arith, before-place c.args.settlement c.args.first cc)) in
    omega arith

fewer : (first settlement redemption : Civil) → IsCouponRedemption first settlement redemption → unpaid_count first settlement < quasi_count first settlement redemption
fewer first settlement redemption redeemed = (is_interest first first settlement redemption 0 redeemed).fewer

pub returns-then-lt-clause-fewer : goal.returns-then-lt-clause-fewer
returns-then-lt-clause-fewer c = let some = fewer (civil c.args.first) (civil c.args.settlement) (civil c.args.redemption) c.requires in grind (arith, nat_tests)

pub returns-else-lt-clause-fewer : goal.returns-else-lt-clause-fewer
returns-else-lt-clause-fewer c = let some = fewer (civil c.args.first) (civil c.args.settlement) (civil c.args.redemption) c.requires in omega arith
