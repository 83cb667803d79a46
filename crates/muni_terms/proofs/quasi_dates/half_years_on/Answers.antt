use Rattle.std.proofs.Common.{◌∙◌, sym, ap, arith}
use Rattle.std.proofs.lemmas.Int.{ints}
use Rattle.muni_rule.specs.QuasiDates.{half_years_after}
use Rattle.muni_days.specs.Day.{civil, if_day}
use Rattle.muni_days.proofs.CivilLemmas.{is_civil, is_of_desk}
use Rattle.muni_days.proofs.EarlyLemmas.{early-there, civil_found}
use Rattle.muni_terms.proofs.HalfYearLemmas.{months-half_years, half_years-early}
use Rattle.muni_terms.proofs.quasi_dates.half_years_on.Goals as goal

pub unreachable-requires : goal.unreachable-requires
unreachable-requires c =
    let date = civil c.args.date in
    let months = months-half_years date c.args.half_years _ (omega (arith, ints)) in
    let early = half_years-early date c.args.half_years (is_civil c.args.date) (is_of_desk c.args.date).year_from c.requires.day c.requires.of_desk in
    early-there (half_years_after date c.args.half_years) early (sym c.in-None.is ∙ c.months_on.ensures ∙ ap if_day months)

pub returns : goal.returns
returns c =
    let date = civil c.args.date in
    let months = months-half_years date c.args.half_years _ (omega (arith, ints)) in
    civil_found (half_years_after date c.args.half_years) c.in-Some.later (sym c.in-Some.is ∙ c.months_on.ensures ∙ ap if_day months)
