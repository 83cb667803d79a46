use Rattle.std.proofs.Common.{◌/◌, ◌^◌, ◌<◌}
use Rattle.muni_span.specs.Rounding.{carry_of}
use Rattle.muni_span.specs.Powers.{product_end}
use Rattle.muni_span.proofs.Squaring.{IsPowerOf}
use Rattle.muni_span.proofs.rounding.Rounding.power.Given as goal

abbrev pub invariant-loop-place : goal.invariant-loop-place
invariant-loop-place l = record {
  within : l.place < 32;
  reached : IsPowerOf (product_end (carry_of l.self)) l.base (l.exponent / 2 ^ l.place) l.power;
}

abbrev pub decreases-loop-place : goal.decreases-loop-place
decreases-loop-place l = l.place
