use Rattle.std.proofs.Common.{◌≡◌, ◌<◌, ◌≤◌, ℕ, length, get_or}
use Rattle.muni_yield.specs.Places.{place_verdict}
use Rattle.muni_sched.specs.declared.search.OpenSearch.{OpenSearch}
use Rattle.muni_sched.specs.Search.{IsHalved}
use Rattle.muni_sched.proofs.round.ask_in_turn.Given as goal

abbrev pub invariant-loop-place : goal.invariant-loop-place
invariant-loop-place g l = record {
  long : length l.searches ≡ length l.fn.searches;
  halved : (k : ℕ) (d : OpenSearch) → k < l.place → IsHalved (place_verdict (g.E.Encloser.ends l.calculator.encloser.now)) (get_or l.fn.searches k d) (get_or l.searches k d);
  rest : (k : ℕ) (d : OpenSearch) → l.place ≤ k → get_or l.searches k d ≡ get_or l.fn.searches k d;
}
