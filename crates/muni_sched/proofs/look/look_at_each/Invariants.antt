use Rattle.std.proofs.Common.{◌≡◌, ◌<◌, ◌≤◌, ℕ, length, get_or}
use Rattle.muni_rule.specs.PrintedYield.{boundary}
use Rattle.muni_yield.specs.Places.{place_verdict, yield_at}
use Rattle.muni_sched.specs.declared.search.OpenSearch.{OpenSearch}
use Rattle.muni_sched.specs.Search.{IsLookedAt}
use Rattle.muni_sched.proofs.look.look_at_each.Given as goal

abbrev pub invariant-loop-place : goal.invariant-loop-place
invariant-loop-place g l = record {
  yield_is : l.annuity.discount.y ≡ boundary (yield_at l.question);
  long : length l.searches ≡ length l.fn.searches;
  looked : (k : ℕ) (d : OpenSearch) → k < l.place → IsLookedAt (place_verdict (g.E.Encloser.ends l.encloser)) (get_or l.fn.searches k d) (get_or l.searches k d);
  rest : (k : ℕ) (d : OpenSearch) → l.place ≤ k → get_or l.searches k d ≡ get_or l.fn.searches k d;
}
