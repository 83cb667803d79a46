use Rattle.std.proofs.Common.{◌≡◌, drop}
use Rattle.muni_sched.specs.Search.{missed_after}
use Rattle.muni_sched.proofs.ceiling.least_missed.Given as goal

abbrev pub invariant-loop-search : goal.invariant-loop-search
invariant-loop-search l = missed_after l.missed (drop l.search-index l.searches) ≡ missed_after l.fn.before l.searches
