use Rattle.std.proofs.Common.{◌≡◌, ◌+◌, ◌*◌, ◌%◌, ap, sym, ◌∙◌, subst, arith, true, false}
use Rattle.std.proofs.lemmas.Bool.{eq-eqb, ne_eqb}
use Rattle.muni_desk.specs.Drill.{IsShare, is_dealt}
use Rattle.muni_desk.specs.Generator.{state_after, IsGenerated}
use Rattle.muni_desk.proofs.DrillLemmas.{share-none, share-more, share-passed, share-room}
use Rattle.muni_desk.proofs.GeneratorLemmas.{state-later}
use Rattle.muni_desk.proofs.drill.share.Goals.{then-place-workers, else-place-workers}
use Rattle.muni_desk.proofs.drill.share.Goals as goal

pub loop-place-init : goal.loop-place-init
loop-place-init g c = record {
  state = c.new-generator.ensures;
  share = share-none (g.E.Encloser.ends c.args.calculator.now.encloser.now) (is_dealt c.args.workers c.args.worker) c.args.seed c.new-sums.result c.new-sums.ensures.sums c.new-sums.ensures.small;
}

pub add-requires-clause-few : goal.add-requires-clause-few
add-requires-clause-few g c =
    let room = share-room (g.E.Encloser.ends c.args.calculator.now.encloser.now) (is_dealt c.args.workers c.args.worker) c.args.seed c.loop-place.place c.loop-place.sums c.loop-place.invariant.share in
    omega (arith, room, c.requires.count)

pub loop-place-preserved : goal.loop-place-preserved
loop-place-preserved g c =
    let ends = g.E.Encloser.ends c.args.calculator.now.encloser.now in
    let seed = c.args.seed in
    let place = c.loop-place.place in
    let chosen = is_dealt c.args.workers c.args.worker in
    let so_far = c.loop-place.invariant in
    elim c.if-place-workers.branch [
      | then-place-workers w ↦
          let here : chosen place ≡ true = eq-eqb (place % c.args.workers) c.args.worker (omega arith) in
          let request = w.trade-row.result in
          let generated : IsGenerated (state_after seed (7 * place)) request = subst (λ s. IsGenerated s request) so_far.state w.trade-row.ensures.trade in
          let share = share-more ends chosen seed place request w.answer_of-answer.result c.loop-place.sums w.add.new.self here so_far.share generated w.answer_of-answer.ensures.right w.add.ensures.sums w.add.ensures.small in
          record {
            state = w.generator-is ∙ w.trade-row.ensures.state ∙ ap (λ s. state_after s 7) so_far.state ∙ state-later seed place;
            share = subst (IsShare ends chosen seed (place + 1)) (sym w.sums-is) share;
          }
      | else-place-workers w ↦
          let not_here : chosen place ≡ false = ne_eqb (place % c.args.workers) c.args.worker (λ e. omega (arith, e)) in
          record {
            state = w.generator-is ∙ w.pass.ensures ∙ ap (λ s. state_after s 7) so_far.state ∙ state-later seed place;
            share = subst (IsShare ends chosen seed (place + 1)) (sym w.sums-is) (share-passed ends chosen seed place c.loop-place.sums not_here so_far.share);
          }
    ]
