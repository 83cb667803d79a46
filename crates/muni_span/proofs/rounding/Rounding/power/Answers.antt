use Rattle.std.proofs.Common.{sym, ap, ◌∙◌, arith}
use Rattle.muni_span.specs.Rounding.{carry_of}
use Rattle.muni_span.specs.Powers.{product_end, power_end}
use Rattle.muni_span.proofs.Squaring.{first_place, next_place, last_place, power_end-none}
use Rattle.muni_span.proofs.rounding.Rounding.power.Goals as goal

pub returns-then-exponent-eq0 : goal.returns-then-exponent-eq0
returns-then-exponent-eq0 c =
    sym (ap (power_end (carry_of c.args.self) c.args.base) c.if-exponent-eq0.true ∙ power_end-none (carry_of c.args.self) c.args.base)

pub loop-place-init : goal.loop-place-init
loop-place-init c = record {
  within = c.ilog2-place.ensures.bound;
  reached = first_place (product_end (carry_of c.args.self)) c.args.base c.args.exponent c.ilog2-place.result c.ilog2-place.ensures.power_le c.ilog2-place.ensures.next_power_gt;
}

pub loop-place-preserved : goal.loop-place-preserved
loop-place-preserved c = record {
  within = omega arith;
  reached = rw c.power_from_half-power.ensures
      (next_place (product_end (carry_of c.args.self)) c.args.base c.args.exponent c.loop-place.place c.loop-place.power (omega arith) c.loop-place.invariant.reached);
}

pub returns : goal.returns
returns c = last_place (carry_of c.args.self) c.args.base c.args.exponent c.loop-place.place c.loop-place.power c.requires (omega arith) c.loop-place.invariant.reached
