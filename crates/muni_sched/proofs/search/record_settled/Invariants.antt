use Rattle.std.proofs.Common.{◌≡◌, drop, length}
use Rattle.muni_sched.specs.Search.{recorded}
use Rattle.muni_sched.proofs.search.record_settled.Given as goal

abbrev pub invariant-loop-search : goal.invariant-loop-search
invariant-loop-search l = record {
  rest : recorded (drop l.search-index l.searches) l.known ≡ recorded l.searches l.fn.known;
  len : length l.known ≡ length l.fn.known;
}
