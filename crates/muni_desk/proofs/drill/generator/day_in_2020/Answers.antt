use Rattle.std.proofs.Common.{◌∙◌, sym, arith}
use Rattle.muni_days.proofs.EarlyLemmas.{early-there, civil_found}
use Rattle.muni_desk.specs.Generator.{day_in_2020}
use Rattle.muni_desk.proofs.drill.generator.day_in_2020.Goals as goal

pub unreachable-requires : goal.unreachable-requires
unreachable-requires c =
    early-there (day_in_2020 c.args.month c.args.day)
    (record {
      year_from = omega arith;
      year_to = omega arith;
      month_from = c.requires.month.0;
      month_to = c.requires.month.1;
      day_from = c.requires.day.0;
      day_to = c.requires.day.1;
    })
    (sym c.in-None.is ∙ c.of.ensures)

pub returns : goal.returns
returns c = civil_found (day_in_2020 c.args.month c.args.day) c.in-Some.date (sym c.in-Some.is ∙ c.of.ensures)
