use Rattle.std.proofs.Common.{◌≡◌, ◌-◌}
use Rattle.muni_multi.proofs.annuity.Annuity.shows.Given as goal

abbrev pub invariant-loop-self : goal.invariant-loop-self
invariant-loop-self l = record {
  same : l.self.discount ≡ l.fn.self.discount;
}

abbrev pub decreases-loop-self : goal.decreases-loop-self
decreases-loop-self l = l.later - l.self.count
