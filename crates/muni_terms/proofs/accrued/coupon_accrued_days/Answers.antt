use Rattle.std.proofs.Common.{arith}
use Rattle.std.proofs.lemmas.Int.{ints}
use Rattle.muni_days.specs.Day.{civil}
use Rattle.muni_days.proofs.CivilLemmas.{is_civil}
use Rattle.muni_rule.proofs.DayCountLemmas.{days360-rise}
use Rattle.muni_days.proofs.OrderLemmas.{before-place}
use Rattle.muni_terms.proofs.accrued.coupon_accrued_days.Goals as goal

pub returns-then-lt-clause-range : goal.returns-then-lt-clause-range
returns-then-lt-clause-range c =
    let rise = days360-rise (civil c.args.dated) (civil c.args.settlement) (civil c.args.first) (is_civil c.args.settlement) (is_civil c.args.first) (omega (arith, before-place c.args.settlement c.args.first cc)) in
    omega (arith, ints)
