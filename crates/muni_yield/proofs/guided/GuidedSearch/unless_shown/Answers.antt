use Rattle.std.proofs.Common.{rules, ◌≡◌, ◌+◌, ◌*◌, ◌≤◌, arith, subst, sym, true, ℤ, pos}
use Rattle.muni_rule.specs.ManyPeriods.{to_come, AtLeast}
use Rattle.muni_rule.specs.PrintedYield.{boundary}
use Rattle.muni_yield.specs.Known.{IsWindow, IsGuided}
use Rattle.muni_yield.specs.Places.{place_verdict, yield_at}
use Rattle.muni_yield.proofs.KnownLemmas.{MayBeAsked, first-window, unknown-window, reached-window}
use Rattle.muni_yield.specs.declared.guided.GuidedSearch.{GuidedSearch}
use Rattle.muni_yield.proofs.guided.GuidedSearch.unless_shown.Given as given
use Rattle.muni_yield.proofs.guided.GuidedSearch.unless_shown.Goals.{After-shows}
use Rattle.muni_yield.proofs.guided.GuidedSearch.unless_shown.Goals as goal

-- the payments may be asked about at any yield
may-be : (g : given.Over) (c : After-shows g) → MayBeAsked c.args.flows.now (g.E.Encloser.ends c.args.encloser.now c.args.flows.now) c.args.price
may-be g c =
    let series = c.flows_are_in_range.ensures in
    record {
      is = series;
      many = c.requires.many;
      some = c.requires.price;
      narrow = λ y within. record {
        holds = g.met.E.Encloser.encloses c.args.encloser.now c.args.flows.now y series c.requires.many within;
        narrow = g.met.E.Encloser.narrow c.args.encloser.now c.args.flows.now y series c.requires.many within;
      };
    }

pub returns-then-shows-clause-shown : goal.returns-then-shows-clause-shown
returns-then-shows-clause-shown g c =
    let ends = g.E.Encloser.ends c.args.encloser.now in
    let series = c.args.flows.now in
    let may = may-be g (goal.at.returns-then-shows-clause-shown g c).After-shows in
    let place = c.place-place in
    let at = place.ensures.value in
    let some : 1 ≤ c.args.question = subst (λ p. 1 ≤ p) at place.ensures.range.0 in
    let most : c.args.question ≤ 105002 = subst (λ p. p ≤ 105002) at place.ensures.range.1 in
    let shows : c.shows.result ≡ true = search rules in
    let shown : AtLeast (to_come series) (boundary (yield_at c.args.question)) (pos (360000 * c.args.price + 360)) = rw (sym c.requires.place) (c.shows.ensures.shown shows) in
    reached-window ends series c.args.price c.args.question _ may some most shown (unknown-window (place_verdict ends series c.args.price))

pub leap-requires : goal.leap-requires
leap-requires g c =
    let ends = g.E.Encloser.ends c.args.encloser.now in
    let may = may-be g (goal.at.leap-requires g c).After-shows in
    let first = first-window ends c.args.flows.now c.args.price may in
    record { known = subst (λ (it : GuidedSearch). IsGuided (place_verdict ends) it) (sym c.start-search.ensures) first }
