use Rattle.std.proofs.Common.{sym, ◌∙◌}
use Rattle.muni_days.proofs.DayLemmas.{day_found, day_missing}
use Rattle.muni_days.proofs.day.Day.of.Goals as goal

pub returns : goal.returns
returns c = day_found (record { year = c.args.year; month = c.args.month; day = c.args.day }) _

pub returns-then-not-is_day : goal.returns-then-not-is_day
returns-then-not-is_day c = day_missing (record { year = c.args.year; month = c.args.month; day = c.args.day }) (sym c.is_day.ensures ∙ c.if-not-is_day.true)
