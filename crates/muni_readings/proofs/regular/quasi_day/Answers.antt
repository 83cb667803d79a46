use Rattle.std.proofs.Common.{◌≡◌, ◌∙◌, arith}
use Rattle.muni_rule.specs.Civil.{day_in_month}
use Rattle.muni_days.specs.Day.{if_day}
use Rattle.muni_readings.proofs.RegularLemmas.{quasi_day-month, found-day}
use Rattle.muni_readings.proofs.regular.quasi_day.Goals as goal

found : (c : goal.After-of) → c.of.result ≡ if_day (day_in_month c.last_month-month.result c.day_of_month.result)
found c = rw (← c.from.ensures, ← c.from-2.ensures, ← c.from-3.ensures) c.of.ensures

pub returns-clause-value : goal.returns-clause-value
returns-clause-value c = found c ∙ quasi_day-month c.args.anchor c.args.day c.last_month-month.result c.day_of_month.result c.last_month-month.ensures c.day_of_month.ensures.value

pub returns-clause-day : goal.returns-clause-day
returns-clause-day c =
    let day = c.requires.day in
    let is = c.day_of_month.ensures.value in
    found-day (day_in_month c.last_month-month.result c.day_of_month.result) c.of.result (found c) (omega (arith, day, is))
