use Rattle.std.proofs.Common.{◌∙◌, sym, negsuc}
use Rattle.muni_rule.specs.Civil.{months_on}
use Rattle.muni_days.specs.Day.{civil}
use Rattle.muni_days.proofs.EarlyLemmas.{early-there, civil_found}
use Rattle.muni_desk.proofs.PeriodLemmas.{start-early}
use Rattle.muni_desk.proofs.one_period.period_start.Goals as goal

pub unreachable-requires : goal.unreachable-requires
unreachable-requires c = early-there (months_on (civil c.args.next) (negsuc 5)) (start-early c.args.next c.requires) (sym c.in-None.is ∙ c.months_on.ensures)

pub returns : goal.returns
returns c = civil_found (months_on (civil c.args.next) (negsuc 5)) c.in-Some.start (sym c.in-Some.is ∙ c.months_on.ensures)
