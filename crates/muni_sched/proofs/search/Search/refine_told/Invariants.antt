use Rattle.std.proofs.Common.{◌≡◌, ◌<◌, ◌≤◌, ◌+◌, ◌-◌, [], ◌∷◌, length}
use Rattle.muni_yield.specs.Places.{place_verdict}
use Rattle.muni_sched.specs.Search.{IsOpen, AreRounds, state}
use Rattle.muni_sched.proofs.RoundsLemmas.{alone}
use Rattle.muni_sched.proofs.search.Search.refine_told.Given as goal

abbrev pub invariant-loop-verdict : goal.invariant-loop-verdict
invariant-loop-verdict g l = let verdicts = place_verdict (g.E.Encloser.ends l.calculator.encloser.now) in record {
  order : l.round ≤ l.next;
  few : l.next ≤ l.round + l.search.guided.bracket.halvings;
  one : l.self.left ≡ 1;
  is : IsOpen verdicts l.search;
  within : l.search.candidate < length l.self.known.items;
  rounds : AreRounds verdicts (l.next - l.round) (state l.fn.self l.fn.slots) (alone l.self.known.items l.self.ceiling l.self.missed (l.search ∷ []));
}

abbrev pub decreases-loop-verdict : goal.decreases-loop-verdict
decreases-loop-verdict g l = 19 - l.search.guided.bracket.halvings
