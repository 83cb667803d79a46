use Rattle.std.proofs.Common.{◌<◌, ◌∙◌, length, get_or, refl, sym, ap, subst, arith}
use Rattle.muni_multi.specs.Discount.{Factors}
use Rattle.muni_yield.specs.Known.{IsGuided}
use Rattle.muni_yield.specs.Places.{place_verdict}
use Rattle.muni_sched.specs.declared.search.OpenSearch.{OpenSearch}
use Rattle.muni_sched.specs.Search.{IsLookedAt}
use Rattle.muni_sched.proofs.ZipLemmas.{IsChangedTo, changed-next, changed-all}
use Rattle.muni_sched.proofs.look.look_at_each.Goals as goal

pub look-requires-clause-known : goal.look-requires-clause-known
look-requires-clause-known g c =
    let verdicts = place_verdict (g.E.Encloser.ends c.args.encloser.now) in
    let place = c.loop-place.place in
    let d = c.index-searches-place.result in
    let within : place < length c.args.searches.now = c.loop-place-test.true in
    subst (λ (one : OpenSearch). IsGuided verdicts one.guided) (sym (c.loop-place.invariant.rest place d (omega arith))) (c.requires.each place d within).2

pub loop-place-preserved : goal.loop-place-preserved
loop-place-preserved g c =
    let verdicts = place_verdict (g.E.Encloser.ends c.args.encloser.now) in
    let searches = c.loop-place.searches in
    let place = c.loop-place.place in
    let d = c.index-searches-place.result in
    let it = c.loop-place.invariant in
    let so_far : IsChangedTo (IsLookedAt verdicts) c.args.searches.now searches place = record { long = it.long; changed = it.looked; rest = it.rest } in
    let looked : OpenSearch = record { candidate = (get_or searches place d).candidate; guided = c.look.new.self } in
    let own : IsLookedAt verdicts (get_or searches place d) looked = record { candidate = refl; bracket = c.look.ensures.bracket; guided = c.look.ensures.known } in
    let next = changed-next (IsLookedAt verdicts) c.args.searches.now searches place d looked c.loop-place-test.true so_far own in
    record {
      yield_is = ap (λ (it : Factors). it.y) c.look.ensures.same ∙ it.yield_is;
      long = next.long;
      looked = next.changed;
      rest = next.rest;
    }

pub returns : goal.returns
returns g c =
    let verdicts = place_verdict (g.E.Encloser.ends c.args.encloser.now) in
    let it = c.loop-place.invariant in
    changed-all (IsLookedAt verdicts) c.args.searches.now c.loop-place.searches c.loop-place.place c.loop-place-test.false
    (record { long = it.long; changed = it.looked; rest = it.rest })
