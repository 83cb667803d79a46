use Rattle.std.proofs.Common.{◌≡◌, SFits, Some, refl, rules, w32}
use Rattle.std.proofs.Math.Facts.{to_z-of_z}
use Rattle.muni_store_rows.specs.Codes.{signed_count}
use Rattle.muni_store_rows.specs.Version.{figure_columns, figures_of}
use Rattle.muni_store_rows.proofs.laws.figures_are_read_again.Goals as goal

pub returns : goal.returns
unfolding figures_of figure_columns
returns c =
    let fits : SFits w32 c.args.figures.now.days = search rules in
    let days : signed_count c.args.figures.now.days ≡ Some c.args.figures.now.days = rw (to_z-of_z fits) at c.day_count_is_read_again.ensures in
    rw (
      c.printed_price_is_read_again.ensures,
      c.printed_yield_is_read_again.ensures,
      c.day_is_read_again.ensures,
      c.price_is_read_again.ensures,
      c.label_is_read_again.ensures,
      days,
      c.money_is_read_again.ensures,
      c.money_is_read_again-2.ensures,
      c.money_is_read_again-3.ensures,
      c.money_is_read_again-4.ensures,
    ) refl
