use Rattle.std.proofs.Common.{sym, subst, All, length, take, ◌<◌}
use Rattle.muni_yield.specs.Places.{place_verdict}
use Rattle.muni_sched.specs.declared.search.OpenSearch.{OpenSearch}
use Rattle.muni_sched.specs.Search.{IsSearch}
use Rattle.muni_sched.proofs.RoundLemmas.{halved-searches, halved-candidates}
use Rattle.muni_sched.proofs.search.Search.refine_each.Given as given
use Rattle.muni_sched.proofs.search.Search.refine_each.Goals.{After-ask_each}
use Rattle.muni_sched.proofs.search.Search.refine_each.Goals as goal

each : (g : given.Over) (c : After-ask_each g) → All IsSearch c.ask_each.new.searches
each g c = halved-searches (place_verdict (g.E.Encloser.ends c.args.calculator.now.encloser.now)) (take c.args.self.now.left c.args.slots.now) c.ask_each.new.searches c.ask_each.ensures c.requires.can.each

pub record_settled-requires-clause-each : goal.record_settled-requires-clause-each
record_settled-requires-clause-each g c = each g (goal.at.record_settled-requires-clause-each g c).After-ask_each

pub record_settled-requires-clause-candidates : goal.record_settled-requires-clause-candidates
record_settled-requires-clause-candidates g c =
    subst (λ known. All (λ (it : OpenSearch). it.candidate < length known) c.ask_each.new.searches) (sym c.as_mut_slice.ensures.value)
    (halved-candidates (place_verdict (g.E.Encloser.ends c.args.calculator.now.encloser.now)) (take c.args.self.now.left c.args.slots.now) c.ask_each.new.searches (length c.args.self.now.known.items) c.ask_each.ensures c.requires.can.candidates)

pub least_ceiling-self-requires : goal.least_ceiling-self-requires
least_ceiling-self-requires g c = each g (goal.at.least_ceiling-self-requires g c).After-ask_each
