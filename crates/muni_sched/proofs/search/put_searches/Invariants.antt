use Rattle.std.proofs.Common.{◌≡◌, ◌≤◌, ◌++◌, take, drop}
use Rattle.muni_sched.specs.Search.{searches_from}
use Rattle.muni_sched.proofs.search.put_searches.Given as goal

abbrev pub invariant-loop-candidate : goal.invariant-loop-candidate
invariant-loop-candidate l = record {
  searches : take l.count l.slots ++ searches_from l.price l.candidate (drop l.candidate l.list) ≡ searches_from l.price 0 l.list;
  room : l.count ≤ l.candidate;
}
