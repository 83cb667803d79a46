use Rattle.std.proofs.Common.{◌≡◌, None, take, length, All}
use Rattle.std.specs.List.{AllZip}
use Rattle.muni_sched.specs.Search.{IsKnownYield, ceiling_first}
use Rattle.muni_sched.specs.YieldOutcome.{IsKnownFirst}
use Rattle.muni_sched.proofs.yield_outcome.push_known_first.Given as goal

abbrev pub invariant-loop-candidate : goal.invariant-loop-candidate
invariant-loop-candidate l = record {
  known : AllZip (IsKnownFirst l.price) (take l.candidate-index l.list) l.known.items;
  range : All IsKnownYield l.known.items;
  room : length l.known.items ≡ l.candidate-index;
  ceiling : l.ceiling ≡ ceiling_first None l.known.items;
}
