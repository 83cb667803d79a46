use Rattle.std.proofs.Common.{◌≡◌, ◌<◌, ◌+◌, ◌++◌, ◌∷◌, [], take, length, refl, ap, sym, subst, arith, ◌∙◌}
use Rattle.std.proofs.lemmas.List.{take_more_set}
use Rattle.muni_multi.specs.Annuity.{AnnuityView}
use Rattle.muni_multi.specs.Discount.{Factors}
use Rattle.muni_yield.specs.Places.{place_verdict}
use Rattle.muni_sched.specs.declared.candidate.Candidate.{Candidate}
use Rattle.muni_sched.specs.declared.search.OpenSearch.{OpenSearch}
use Rattle.muni_sched.proofs.LookedLemmas.{IsLookedUpTo, looked-one, looked-shown, looked-kept, from-many, from-one}
use Rattle.muni_sched.proofs.look.put_unless_shown.Goals.{in-Many+in-Some, in-Many+in_default-unless_shown, in_default}
use Rattle.muni_sched.proofs.look.put_unless_shown.Goals as goal

pub loop-candidate-preserved : goal.loop-candidate-preserved
loop-candidate-preserved g c =
    let verdicts = place_verdict (g.E.Encloser.ends c.args.encloser.now) in
    let price = c.args.price in
    let place = c.args.question in
    let list = c.args.list.now in
    let at = c.loop-candidate.candidate in
    let count = c.loop-candidate.count in
    let slots = c.loop-candidate.slots in
    let one = c.index-list-candidate.result in
    let so_far = c.loop-candidate.invariant in
    let inside : at < length list = c.loop-candidate-test.true in
    let room = so_far.room in
    let long = so_far.long in
    let own = sym (ap (λ (it : Candidate). it.shape) c.index-list-candidate.is) in
    elim c.match-redemption.branch [
      | in-Many+in-Some w ↦
          let next = from-many price list at one w.in-Many.flows inside (own ∙ w.in-Many.is) in
          let search : OpenSearch = record { candidate = at; guided = w.in-Some.guided } in
          let free : count < length slots = omega (arith, room, long, inside, c.requires.few, c.requires.room) in
          let kept = looked-kept verdicts place price list at w.in-Many.flows (take count slots) search next refl w.in-Some.ensures.start w.in-Some.ensures.known so_far.looked in
          let put : take c.match-redemption.count c.match-redemption.slots ≡ take count slots ++ search ∷ [] = rw (w.count-is, w.slots-is) (take_more_set slots count search free) in
          record {
            yield_is = ap (λ (it : AnnuityView). it.discount.y) w.annuity-is ∙ (ap (λ (it : Factors). it.y) w.unless_shown.ensures.same ∙ so_far.yield_is);
            looked = subst (IsLookedUpTo verdicts place price list (at + 1)) (sym put) kept;
            room = rw w.count-is (omega (arith, room));
            long = c.match-redemption.auto.slots ∙ long;
          }
      | in-Many+in_default-unless_shown w ↦
          let next = from-many price list at one w.in-Many.flows inside (own ∙ w.in-Many.is) in
          let shown = looked-shown verdicts place price list at w.in-Many.flows (take count slots) next (w.in_default-unless_shown.ensures.shown) so_far.looked in
          let same : take c.match-redemption.count c.match-redemption.slots ≡ take count slots = rw (w.count-is, w.slots-is) refl in
          record {
            yield_is = ap (λ (it : AnnuityView). it.discount.y) w.annuity-is ∙ (ap (λ (it : Factors). it.y) w.unless_shown.ensures.same ∙ so_far.yield_is);
            looked = subst (IsLookedUpTo verdicts place price list (at + 1)) (sym same) shown;
            room = rw w.count-is (omega (arith, room));
            long = c.match-redemption.auto.slots ∙ long;
          }
      | in_default w ↦
          let next = from-one price list at one inside (λ series is. w.in_default.not-Many series (sym own ∙ is)) in
          let none = looked-one verdicts place price list at (take count slots) next so_far.looked in
          let same : take c.match-redemption.count c.match-redemption.slots ≡ take count slots = rw (w.count-is, w.slots-is) refl in
          record {
            yield_is = ap (λ (it : AnnuityView). it.discount.y) w.annuity-is ∙ so_far.yield_is;
            looked = subst (IsLookedUpTo verdicts place price list (at + 1)) (sym same) none;
            room = rw w.count-is (omega (arith, room));
            long = c.match-redemption.auto.slots ∙ long;
          }
    ]
