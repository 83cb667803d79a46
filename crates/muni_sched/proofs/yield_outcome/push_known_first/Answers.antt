use Rattle.std.proofs.Common.{◌≡◌, ◌∙◌, None, rules, ap, sym}
use Rattle.std.proofs.lemmas.List.Elements.{All-push, All-same}
use Rattle.muni_sched.specs.Search.{IsKnownYield, ceiling_first, lower_of, missed_first}
use Rattle.muni_sched.specs.YieldOutcome.{IsKnownFirst}
use Rattle.muni_sched.proofs.StartLemmas.{ceiling-next, lower-unknown}
use Rattle.muni_sched.proofs.ZipLemmas.{zip-next}
use Rattle.muni_sched.proofs.yield_outcome.push_known_first.Goals.{then-is_some, else-is_some}
use Rattle.muni_sched.proofs.yield_outcome.push_known_first.Goals as goal

pub loop-candidate-preserved : goal.loop-candidate-preserved
loop-candidate-preserved c =
    let known = c.known_first-outcome.result in
    let so_far = c.loop-candidate.invariant in
    let before = c.loop-candidate.known.items in
    let lower : c.if-is_some.ceiling ≡ lower_of c.loop-candidate.ceiling (missed_first known) = elim c.if-is_some.branch [
      | then-is_some w ↦ w.ceiling-is ∙ (w.lower_of-ceiling.ensures ∙ ap (lower_of c.loop-candidate.ceiling) w.missed_first.ensures)
      | else-is_some w ↦ w.ceiling-is ∙ lower-unknown c.loop-candidate.ceiling known (sym c.is_some.ensures ∙ w.if-is_some.false)
    ] in
    record {
      known = zip-next (IsKnownFirst c.args.price) c.args.list.now c.loop-candidate.candidate-index c.candidate-item.result c.loop-candidate.known.items c.push.new.self.items known
          c.loop-candidate-test.true c.candidate-item.is so_far.known c.known_first-outcome.ensures.known c.push.ensures.items;
      range = All-same IsKnownYield c.push.new.self.items _ c.push.ensures.items (All-push IsKnownYield c.loop-candidate.known.items known so_far.range c.known_first-outcome.ensures.range);
      room = search rules;
      ceiling = lower ∙ (ap (λ it. lower_of it (missed_first known)) so_far.ceiling ∙ (sym (ceiling-next None before known) ∙ ap (ceiling_first None) (sym c.push.ensures.items)));
    }
