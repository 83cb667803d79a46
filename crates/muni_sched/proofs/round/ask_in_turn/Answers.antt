use Rattle.std.proofs.Common.{◌<◌, length, sym, subst, arith}
use Rattle.muni_yield.specs.Places.{place_verdict}
use Rattle.muni_sched.specs.Search.{IsOpen, IsHalved}
use Rattle.muni_sched.proofs.ZipLemmas.{IsChangedTo, changed-next, changed-all}
use Rattle.muni_sched.proofs.round.ask_in_turn.Goals as goal

pub ask_one-requires : goal.ask_one-requires
ask_one-requires g c =
    let verdicts = place_verdict (g.E.Encloser.ends c.args.calculator.now.encloser.now) in
    let place = c.loop-place.place in
    let d = c.index-searches-place.result in
    let within : place < length c.args.searches.now = c.loop-place-test.true in
    subst (IsOpen verdicts) (sym (c.loop-place.invariant.rest place d (omega arith))) (c.requires place d within)

pub loop-place-preserved : goal.loop-place-preserved
loop-place-preserved g c =
    let verdicts = place_verdict (g.E.Encloser.ends c.args.calculator.now.encloser.now) in
    let it = c.loop-place.invariant in
    let so_far : IsChangedTo (IsHalved verdicts) c.args.searches.now c.loop-place.searches c.loop-place.place = record { long = it.long; changed = it.halved; rest = it.rest } in
    let next = changed-next (IsHalved verdicts) c.args.searches.now c.loop-place.searches c.loop-place.place c.index-searches-place.result c.ask_one.new.search c.loop-place-test.true so_far c.ask_one.ensures in
    record { long = next.long; halved = next.changed; rest = next.rest }

pub returns : goal.returns
returns g c =
    let verdicts = place_verdict (g.E.Encloser.ends c.args.calculator.now.encloser.now) in
    let it = c.loop-place.invariant in
    changed-all (IsHalved verdicts) c.args.searches.now c.loop-place.searches c.loop-place.place c.loop-place-test.false
    (record { long = it.long; changed = it.halved; rest = it.rest })
