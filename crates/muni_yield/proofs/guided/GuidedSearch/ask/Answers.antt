use Rattle.std.proofs.Common.{◌≡◌, ◌+◌, ◌*◌, ◌≤◌, subst, sym}
use Rattle.muni_multi.specs.Readings.{is_clear}
use Rattle.muni_yield.specs.Known.{IsWindow, learnt}
use Rattle.muni_yield.specs.Places.{place_verdict, ends_at}
use Rattle.muni_yield.proofs.KnownLemmas.{MayBeAsked, learnt-window}
use Rattle.muni_yield.proofs.guided.GuidedSearch.ask.Goals as goal

pub returns-clause-known : goal.returns-clause-known
returns-clause-known g c =
    let ends = g.E.Encloser.ends c.args.encloser.now in
    let bracket = c.args.self.now.bracket in
    let places = c.searches_are_in_order.ensures.places in
    let series = c.searches_are_in_order.ensures.series in
    let may : MayBeAsked bracket.series (ends bracket.series) bracket.price = record {
      is = series;
      many = places.many;
      some = places.price;
      narrow = λ y within. record {
        holds = g.met.E.Encloser.encloses c.args.encloser.now bracket.series y series places.many within;
        narrow = g.met.E.Encloser.narrow c.args.encloser.now bracket.series y series places.many within;
      };
    } in
    let place = c.place in
    let at = place.ensures.value in
    let some : 1 ≤ c.args.question = subst (λ p. 1 ≤ p) at place.ensures.range.0 in
    let most : c.args.question ≤ 105002 = subst (λ p. p ≤ 105002) at place.ensures.range.1 in
    let clear : c.ask-reading.result.clear ≡ is_clear c.ask-reading.result.verdict (ends_at ends bracket.series c.args.question) (360000 * bracket.price + bracket.series.accrued) = rw (c.flows.ensures, c.price.ensures) at c.ask-reading.ensures.clear in
    let learns = learnt-window ends bracket.series bracket.price c.args.question c.args.self.now.window c.ask-reading.result may some most clear c.requires.known in
    subst (IsWindow (place_verdict ends bracket.series bracket.price)) (sym c.learn.ensures)
    (subst (λ p. IsWindow (place_verdict ends bracket.series bracket.price) (learnt p c.ask-reading.result c.args.self.now.window)) (sym at) learns)
