use Rattle.std.proofs.Common.{◌≡◌, ◌≤◌, take, drop}
use Rattle.std.specs.List.{filter}
use Rattle.muni_sched.specs.Search.{is_needed}
use Rattle.muni_sched.proofs.search.keep_needed.Given as goal

abbrev pub invariant-loop-place : goal.invariant-loop-place
invariant-loop-place l = record {
  needed : take l.kept l.searches ≡ filter (is_needed l.ceiling l.missed) (take l.place l.fn.searches);
  rest : drop l.place l.searches ≡ drop l.place l.fn.searches;
  room : l.kept ≤ l.place;
}
