use Rattle.std.proofs.Common.{◌-◌, ◌/◌, ◌^◌, ◌<◌}
use Rattle.muni_span.specs.Powers.{product_end}
use Rattle.muni_span.proofs.Squaring.{IsPowerOf}
use Rattle.muni_multi.proofs.DoublingTurns.{IsLevelOf}
use Rattle.muni_multi.proofs.doubling.level_sum.Given as goal

-- the payments and the factor of the places of the count so far
abbrev pub invariant-loop-place : goal.invariant-loop-place
invariant-loop-place l = record {
  within : l.place < 32;
  sum_low : IsLevelOf 0 l.amount l.discount.lo (l.count / 2 ^ l.place) l.sum.lo;
  sum_high : IsLevelOf (2 ^ 60 - 1) l.amount l.discount.hi (l.count / 2 ^ l.place) l.sum.hi;
  factor_low : IsPowerOf (product_end 0) l.discount.lo (l.count / 2 ^ l.place) l.factor.lo;
  factor_high : IsPowerOf (product_end (2 ^ 60 - 1)) l.discount.hi (l.count / 2 ^ l.place) l.factor.hi;
}

abbrev pub decreases-loop-place : goal.decreases-loop-place
decreases-loop-place l = l.place
