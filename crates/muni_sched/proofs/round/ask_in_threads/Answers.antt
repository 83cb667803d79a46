use Rattle.std.proofs.Common.{rules, subst, ◌≡◌, ◌<◌, ℕ, length, get_or}
use Rattle.muni_yield.specs.Places.{place_verdict}
use Rattle.muni_sched.specs.declared.search.OpenSearch.{OpenSearch}
use Rattle.muni_sched.specs.Search.{IsHalved}
use Rattle.muni_sched.proofs.ZipLemmas.{zip-each}
use Rattle.muni_sched.proofs.round.ask_in_threads.Goals as goal

pub returns : goal.returns
returns g c =
    let old = c.args.searches.now in
    let new = c.for_each_mut.new.s in
    let verdicts = place_verdict (g.E.Encloser.ends c.args.calculator.now.encloser.now) in
    let count : length new ≡ length old = search rules in
    let each : (k : ℕ) (d : OpenSearch) → k < length old → IsHalved verdicts (get_or old k d) (get_or new k d) = λ k d h.
    let at = (c.for_each_mut.ensures k d h).1 in
    subst (λ before. IsHalved verdicts before (get_or new k d)) at.argument_is (subst (IsHalved verdicts at.argument.now) at.left at.call) in
    zip-each (IsHalved verdicts) old new count each
