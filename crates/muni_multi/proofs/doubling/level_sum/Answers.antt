use Rattle.std.proofs.Common.{◌-◌, ◌*◌, ◌/◌, ◌^◌, ◌≤◌, sym, ap, ◌∙◌, subst, arith}
use Rattle.muni_span.specs.Powers.{product_end, power_low, power_high}
use Rattle.muni_span.proofs.Squaring.{first_place, next_place, last_place}
use Rattle.muni_multi.specs.Doubling.{level_end}
use Rattle.muni_multi.specs.DoublingLaws.{level_end-none}
use Rattle.muni_multi.proofs.DoublingTurns.{first-turn, next-turn, last-turn, halved, places-few, half-fits, factor-at, power-fits}
use Rattle.muni_multi.proofs.doubling.level_sum.Goals as goal

pub returns-then-count-eq0-clause-lo : goal.returns-then-count-eq0-clause-lo
returns-then-count-eq0-clause-lo c =
    c.of.ensures.lo ∙ sym (ap (level_end 0 c.args.amount c.args.discount.lo) c.if-count-eq0.true ∙ level_end-none 0 c.args.amount c.args.discount.lo)

pub returns-then-count-eq0-clause-hi : goal.returns-then-count-eq0-clause-hi
returns-then-count-eq0-clause-hi c =
    c.of.ensures.hi ∙ sym (ap (level_end (2 ^ 60 - 1) c.args.amount c.args.discount.hi) c.if-count-eq0.true ∙ level_end-none (2 ^ 60 - 1) c.args.amount c.args.discount.hi)

pub loop-place-init : goal.loop-place-init
loop-place-init c =
    let least = c.ilog2-place.ensures.power_le in
    let most = c.ilog2-place.ensures.next_power_gt in
    record {
      within = c.ilog2-place.ensures.bound;
      sum_low = first-turn 0 c.args.amount c.args.discount.lo c.args.count c.ilog2-place.result c.of-sum.result.lo least most c.of-sum.ensures.lo;
      sum_high = first-turn (2 ^ 60 - 1) c.args.amount c.args.discount.hi c.args.count c.ilog2-place.result c.of-sum.result.hi least most c.of-sum.ensures.hi;
      factor_low = first_place (product_end 0) c.args.discount.lo c.args.count c.ilog2-place.result least most;
      factor_high = first_place (product_end (2 ^ 60 - 1)) c.args.discount.hi c.args.count c.ilog2-place.result least most;
    }

pub level_from_half-sum-requires-clause-half : goal.level_from_half-sum-requires-clause-half
level_from_half-sum-requires-clause-half c =
    let few = places-few c.args.count c.loop-place.place c.requires.few in
    (half-fits c.args.amount c.args.discount.lo c.args.discount.hi (c.args.count / 2 ^ c.loop-place.place) c.loop-place.sum.lo c.loop-place.sum.hi c.requires.discount c.requires.amount few
    c.loop-place.invariant.sum_low c.loop-place.invariant.sum_high).1

pub level_from_half-sum-requires-clause-fits : goal.level_from_half-sum-requires-clause-fits
level_from_half-sum-requires-clause-fits c =
    let few = places-few c.args.count c.loop-place.place c.requires.few in
    let at = factor-at (2 ^ 60 - 1) c.args.discount.hi (c.args.count / 2 ^ c.loop-place.place) c.loop-place.factor.hi few c.loop-place.invariant.factor_high in
    subst (λ x. x ≤ 15 * 2 ^ 60) (sym at) (power-fits c.args.discount.lo c.args.discount.hi (c.args.count / 2 ^ c.loop-place.place) c.requires.discount few)

pub level_from_half-sum-requires-clause-factor_lo : goal.level_from_half-sum-requires-clause-factor_lo
level_from_half-sum-requires-clause-factor_lo c =
    let few = places-few c.args.count c.loop-place.place c.requires.few in
    factor-at 0 c.args.discount.lo (c.args.count / 2 ^ c.loop-place.place) c.loop-place.factor.lo few c.loop-place.invariant.factor_low
    ∙ ap (power_low c.args.discount.lo) (sym (halved c.args.count c.loop-place.place (omega arith)))

pub level_from_half-sum-requires-clause-factor_hi : goal.level_from_half-sum-requires-clause-factor_hi
level_from_half-sum-requires-clause-factor_hi c =
    let few = places-few c.args.count c.loop-place.place c.requires.few in
    factor-at (2 ^ 60 - 1) c.args.discount.hi (c.args.count / 2 ^ c.loop-place.place) c.loop-place.factor.hi few c.loop-place.invariant.factor_high
    ∙ ap (power_high c.args.discount.hi) (sym (halved c.args.count c.loop-place.place (omega arith)))

pub loop-place-preserved : goal.loop-place-preserved
loop-place-preserved c = record {
  within = omega arith;
  sum_low = next-turn 0 c.args.amount c.args.discount.lo c.args.count c.loop-place.place c.loop-place.sum.lo c.level_from_half-sum.result.lo (omega arith) c.loop-place.invariant.sum_low c.level_from_half-sum.ensures.lo;
  sum_high = next-turn (2 ^ 60 - 1) c.args.amount c.args.discount.hi c.args.count c.loop-place.place c.loop-place.sum.hi c.level_from_half-sum.result.hi (omega arith) c.loop-place.invariant.sum_high c.level_from_half-sum.ensures.hi;
  factor_low = rw c.power_from_half-factor.ensures.lo (next_place (product_end 0) c.args.discount.lo c.args.count c.loop-place.place c.loop-place.factor.lo (omega arith) c.loop-place.invariant.factor_low);
  factor_high = rw c.power_from_half-factor.ensures.hi (next_place (product_end (2 ^ 60 - 1)) c.args.discount.hi c.args.count c.loop-place.place c.loop-place.factor.hi (omega arith) c.loop-place.invariant.factor_high);
}

pub returns-clause-lo : goal.returns-clause-lo
returns-clause-lo c = last-turn 0 c.args.amount c.args.discount.lo c.args.count c.loop-place.place c.loop-place.sum.lo (omega arith) (omega arith) c.loop-place.invariant.sum_low

pub returns-clause-hi : goal.returns-clause-hi
returns-clause-hi c = last-turn (2 ^ 60 - 1) c.args.amount c.args.discount.hi c.args.count c.loop-place.place c.loop-place.sum.hi (omega arith) (omega arith) c.loop-place.invariant.sum_high

pub returns-clause-small : goal.returns-clause-small
returns-clause-small c =
    let few = places-few c.args.count c.loop-place.place c.requires.few in
    (half-fits c.args.amount c.args.discount.lo c.args.discount.hi (c.args.count / 2 ^ c.loop-place.place) c.loop-place.sum.lo c.loop-place.sum.hi c.requires.discount c.requires.amount few
    c.loop-place.invariant.sum_low c.loop-place.invariant.sum_high).1

pub returns-clause-factor_lo : goal.returns-clause-factor_lo
returns-clause-factor_lo c = last_place 0 c.args.discount.lo c.args.count c.loop-place.place c.loop-place.factor.lo (omega arith) (omega arith) c.loop-place.invariant.factor_low

pub returns-clause-factor_hi : goal.returns-clause-factor_hi
returns-clause-factor_hi c = last_place (2 ^ 60 - 1) c.args.discount.hi c.args.count c.loop-place.place c.loop-place.factor.hi (omega arith) (omega arith) c.loop-place.invariant.factor_high
