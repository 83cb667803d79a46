use Rattle.std.proofs.Common.{◌≡◌, ◌*◌, ◌∙◌, sym, ap, arith, pos, to_z, w32}
use Rattle.std.proofs.lemmas.Int.{ints}
use Rattle.muni_days.specs.Day.{civil, if_day}
use Rattle.muni_days.proofs.EarlyLemmas.{early-there, civil_found}
use Rattle.muni_desk.specs.Generator.{interest_date}
use Rattle.muni_desk.proofs.GeneratorLemmas.{interest-early, months-later}
use Rattle.muni_desk.proofs.drill.generator.interest_date.Goals as goal

pub unreachable-requires : goal.unreachable-requires
unreachable-requires c =
    let months : to_z w32 (6 * c.args.half_years) ≡ pos (6 * c.args.half_years) = omega (arith, ints) in
    let later = months-later (civil c.day_in_2020.result) (to_z w32 (6 * c.args.half_years)) c.args.half_years c.day_in_2020.ensures months in
    early-there (interest_date c.args.half_years) (interest-early c.args.half_years c.requires) (sym c.in-None.is ∙ c.months_on.ensures ∙ ap if_day later)

pub returns : goal.returns
returns c =
    let months : to_z w32 (6 * c.args.half_years) ≡ pos (6 * c.args.half_years) = omega (arith, ints) in
    let later = months-later (civil c.day_in_2020.result) (to_z w32 (6 * c.args.half_years)) c.args.half_years c.day_in_2020.ensures months in
    civil_found (interest_date c.args.half_years) c.in-Some.date (sym c.in-Some.is ∙ c.months_on.ensures ∙ ap if_day later)
