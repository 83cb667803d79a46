use Rattle.std.proofs.Common.{◌-◌, ◌+◌, ◌*◌, arith}
use Rattle.muni_days.specs.Day.{civil}
use Rattle.muni_days.proofs.CivilLemmas.{is_civil}
use Rattle.muni_rule.specs.Civil.{month_index}
use Rattle.muni_terms.proofs.LastMonthLemmas.{IsIntoPeriod, days_into_period-month}
use Rattle.muni_terms.proofs.quasi_dates.days_into_period.Goals as goal

into : (c : goal.After-day_of_month-2) → IsIntoPeriod (civil c.args.anchor) (civil c.args.settlement) ((month_index (civil c.args.settlement) - c.last_month.result) * 30 + c.args.settlement.day - c.args.anchor.day)
into c = days_into_period-month (civil c.args.anchor) (civil c.args.settlement) c.last_month.result c.last_month.ensures (is_civil c.args.anchor) c.requires.day (is_civil c.args.settlement)

pub returns-clause-days : goal.returns-clause-days
returns-clause-days c = let counted = (into c).counted in cc

pub returns-clause-range : goal.returns-clause-range
returns-clause-range c = let most = (into c).most in omega arith
