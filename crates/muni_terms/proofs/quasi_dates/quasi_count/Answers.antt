use Rattle.std.proofs.Common.{sym}
use Rattle.muni_days.specs.Day.{civil}
use Rattle.muni_terms.proofs.LastMonthLemmas.{quasi_count-months}
use Rattle.muni_terms.proofs.quasi_dates.quasi_count.Goals as goal

pub returns : goal.returns
returns c =
    sym (quasi_count-months (civil c.args.anchor) (civil c.args.start) (civil c.args.end) c.last_month-2.result c.last_month.result c.last_month-2.ensures c.last_month.ensures c.requires.order)
