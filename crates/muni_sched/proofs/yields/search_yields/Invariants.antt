use Rattle.std.proofs.Common.{◌≤◌, ◌-◌, length}
use Rattle.muni_yield.specs.Places.{place_verdict}
use Rattle.muni_sched.specs.Search.{state}
use Rattle.muni_sched.proofs.CountLemmas.{IsCounted}
use Rattle.muni_sched.proofs.StartLemmas.{IsFinal}
use Rattle.muni_sched.proofs.yields.search_yields.Given as goal

abbrev pub invariant-loop-search : goal.invariant-loop-search
invariant-loop-search g l = let verdicts = place_verdict (g.E.Encloser.ends l.calculator.encloser.now) in record {
  final : IsFinal verdicts l.fn.price l.list l.rounds (state l.search l.slots);
  fits : l.search.left ≤ length l.slots;
  most : l.rounds ≤ 19;
  counted : IsCounted verdicts l.fn.price l.list l.initial.search.ceiling l.rounds (state l.search l.slots);
}

abbrev pub decreases-loop-search : goal.decreases-loop-search
decreases-loop-search g l = 19 - l.rounds
