use Rattle.std.proofs.Common.{rules, All, map, sym, subst}
use Rattle.std.proofs.lemmas.List.Elements.{All-map}
use Rattle.muni_sched.specs.FigureKind.{Price}
use Rattle.muni_sched.specs.Figures.{IsOf}
use Rattle.muni_sched.specs.PriceOutcome.{price_outcome, IsPrintable}
use Rattle.muni_test_figures.proofs.schedules.outcomes.is_lowest_price.Goals as goal

pub lowest_of-found-requires : goal.lowest_of-found-requires
lowest_of-found-requires c =
    let of : All IsPrintable c.in_ok-prices.prices.items = search rules in
    subst (λ xs. All (IsOf Price) (map price_outcome xs)) (sym c.as_slice.ensures.value) (All-map (IsOf Price) price_outcome c.in_ok-prices.prices.items of)
