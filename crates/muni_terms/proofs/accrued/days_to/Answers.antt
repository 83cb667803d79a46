use Rattle.std.proofs.Common.{arith}
use Rattle.std.proofs.lemmas.Int.{ints}
use Rattle.muni_days.specs.Day.{civil}
use Rattle.muni_days.proofs.CivilLemmas.{is_of_calendar}
use Rattle.muni_rule.proofs.DayCountLemmas.{days_by-not_negative}
use Rattle.muni_terms.proofs.accrued.days_to.Goals as goal

pub overflow_cast-result : goal.overflow_cast-result
overflow_cast-result c =
    let from_zero = days_by-not_negative c.args.basis (civil c.args.first) (civil c.args.last) (is_of_calendar c.args.first) (is_of_calendar c.args.last) c.requires in
    (grind (arith, ints), grind (arith, ints))

pub returns : goal.returns
returns c =
    let from_zero = days_by-not_negative c.args.basis (civil c.args.first) (civil c.args.last) (is_of_calendar c.args.first) (is_of_calendar c.args.last) c.requires in
    grind (arith, ints)
