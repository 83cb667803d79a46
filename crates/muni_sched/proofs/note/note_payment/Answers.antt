use Rattle.std.proofs.Common.{◌≡◌, ◌+◌, ◌-◌, pos, ◌-ℤ◌, to_z, w32, w64, arith}
use Rattle.std.proofs.lemmas.Int.{ints}
use Rattle.muni_rule.specs.Accrued.{interest}
use Rattle.muni_rule.specs.DayCount.{days_by}
use Rattle.muni_days.specs.Day.{civil}
use Rattle.muni_sched.proofs.note.note_payment.Goals as goal

pub returns-clause-payment : goal.returns-clause-payment
returns-clause-payment c =
    let row = c.args.issue.now in
    let days = c.note_days-days in
    let whole : c.interest.result ≡ interest row.coupon (days_by row.basis (civil row.dated) (civil row.maturity)) = cc in
    let accrued : c.interest-2.result ≡ interest row.coupon (days_by row.basis (civil row.dated) (civil c.args.settlement)) = cc in
    let due : to_z w64 (c.par.result + c.interest.result) ≡ pos (c.par.result + c.interest.result) = omega (arith, ints) in
    let owed : to_z w64 c.interest-2.result ≡ pos c.interest-2.result = omega (arith, ints) in
    let left : to_z w32 (days.result.whole - days.result.accrued) ≡ (days_by row.basis (civil row.dated) (civil row.maturity) -ℤ days_by row.basis (civil row.dated) (civil c.args.settlement)) = rw (← days.ensures.whole, ← days.ensures.accrued) (omega (arith, ints)) in
    cc
