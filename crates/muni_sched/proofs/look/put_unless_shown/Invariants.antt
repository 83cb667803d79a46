use Rattle.std.proofs.Common.{◌≡◌, ◌≤◌, length, take}
use Rattle.muni_rule.specs.PrintedYield.{boundary}
use Rattle.muni_yield.specs.Places.{place_verdict, yield_at}
use Rattle.muni_sched.proofs.LookedLemmas.{IsLookedUpTo}
use Rattle.muni_sched.proofs.look.put_unless_shown.Given as goal

abbrev pub invariant-loop-candidate : goal.invariant-loop-candidate
invariant-loop-candidate g l = record {
  yield_is : l.annuity.discount.y ≡ boundary (yield_at l.question);
  looked : IsLookedUpTo (place_verdict (g.E.Encloser.ends l.encloser)) l.question l.price l.list l.candidate (take l.count l.slots);
  room : l.count ≤ l.candidate;
  long : length l.slots ≡ length l.fn.slots;
}
