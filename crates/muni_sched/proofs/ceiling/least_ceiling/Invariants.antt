use Rattle.std.proofs.Common.{◌≡◌, drop}
use Rattle.muni_sched.specs.Search.{ceiling_after}
use Rattle.muni_sched.proofs.ceiling.least_ceiling.Given as goal

abbrev pub invariant-loop-search : goal.invariant-loop-search
invariant-loop-search l = ceiling_after l.ceiling (drop l.search-index l.searches) ≡ ceiling_after l.fn.before l.searches
