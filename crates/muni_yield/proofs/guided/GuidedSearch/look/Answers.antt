use Rattle.std.proofs.Common.{rules, ◌≡◌, ◌+◌, ◌*◌, ◌≤◌, ◌∙◌, subst, sym, true, ℤ, pos}
use Rattle.muni_rule.specs.ManyPeriods.{to_come, AtLeast}
use Rattle.muni_rule.specs.PrintedYield.{boundary}
use Rattle.muni_yield.specs.Known.{IsWindow, window_at}
use Rattle.muni_yield.specs.Places.{place_verdict, yield_at}
use Rattle.muni_yield.specs.declared.window.Window.{Window}
use Rattle.muni_yield.proofs.KnownLemmas.{MayBeAsked, reached-window}
use Rattle.muni_yield.proofs.guided.GuidedSearch.look.Goals as goal

pub returns-then-shows-clause-known : goal.returns-then-shows-clause-known
returns-then-shows-clause-known g c =
    let ends = g.E.Encloser.ends c.args.encloser.now in
    let bracket = c.args.self.now.bracket in
    let places = c.searches_are_in_order.ensures.places in
    let series = c.searches_are_in_order.ensures.series in
    let may : MayBeAsked bracket.series (ends bracket.series) bracket.price = record {
      is = series;
      many = places.many;
      some = places.price;
      narrow = λ y within. record {
        holds = g.met.E.Encloser.encloses c.args.encloser.now bracket.series y series places.many within;
        narrow = g.met.E.Encloser.narrow c.args.encloser.now bracket.series y series places.many within;
      };
    } in
    let place = c.place in
    let at = place.ensures.value in
    let some : 1 ≤ c.args.question = subst (λ p. 1 ≤ p) at place.ensures.range.0 in
    let most : c.args.question ≤ 105002 = subst (λ p. p ≤ 105002) at place.ensures.range.1 in
    let shows : c.shows.result ≡ true = search rules in
    let shown : AtLeast (to_come bracket.series) (boundary (yield_at c.args.question)) (pos (360000 * bracket.price + 360))
    = rw (sym c.flows.ensures, sym c.price.ensures, sym c.requires.place) (c.shows.ensures.shown shows) in
    let window = reached-window ends bracket.series bracket.price c.args.question c.args.self.now.window may some most shown c.requires.known in
    subst (IsWindow (place_verdict ends bracket.series bracket.price)) (sym c.reach.ensures)
    (subst (λ p. IsWindow (place_verdict ends bracket.series bracket.price) (window_at p c.args.self.now.window.no)) (sym at) window)
