use Rattle.std.proofs.Common.{◌≡◌, ◌+◌, ◌-◌, ◌*◌, ◌^◌, ◌≤◌, arith}
use Rattle.std.proofs.Math.Nat.{mul-le-mul}
use Rattle.muni_rule.specs.Payments as rule
use Rattle.muni_multi.specs.Horner.{sum_high}
use Rattle.muni_multi.proofs.HornerTurns.{turn-low, turn-high, last-low, last-high, turn-fits, factor-small}
use Rattle.muni_multi.proofs.outside.discounted_sum.Goals as goal

pub loop-k-init : goal.loop-k-init
loop-k-init c = record {
  low =
      last-low (rule.payment_at c.args.flows.now) c.args.discount.lo c.args.flows.now.n (c.n-last.result - 1) c.payment_at.result c.of-sum.result.lo
      c.n-last.ensures.bounds.n_from (omega arith) c.payment_at.ensures.value c.of-sum.ensures.lo;
  high =
      last-high (rule.payment_at c.args.flows.now) c.args.discount.hi c.args.flows.now.n (c.n-last.result - 1) c.payment_at.result c.of-sum.result.hi
      c.n-last.ensures.bounds.n_from (omega arith) c.payment_at.ensures.value c.of-sum.ensures.hi;
}

pub scale-requires : goal.scale-requires
scale-requires c =
    let small = turn-fits c.args.flows.now c.args.discount.lo c.args.discount.hi c.loop-k.k c.loop-k.sum.hi c.n-last.ensures.bounds c.requires (omega arith) c.loop-k.invariant.high in
    let factor = factor-small c.args.discount.lo c.args.discount.hi c.requires in
    let under : c.loop-k.sum.hi ≤ 2 ^ 64 = omega (arith, small) in
    let over : c.args.discount.hi ≤ 2 ^ 61 = omega (arith, factor) in
    let product : c.loop-k.sum.hi * c.args.discount.hi ≤ 2 ^ 64 * 2 ^ 61 = mul-le-mul under over in
    omega (arith, product)

pub add-sum-requires : goal.add-sum-requires
add-sum-requires c =
    let next : c.scale.result.hi + c.of.result.hi ≡ sum_high (rule.payment_at c.args.flows.now) c.args.discount.hi (c.args.flows.now.n - (c.loop-k.k - 1)) (c.loop-k.k - 1)
    = turn-high (rule.payment_at c.args.flows.now) c.args.discount.hi c.args.flows.now.n c.loop-k.k c.payment_at-in-loop-k.result c.loop-k.sum.hi (c.scale.result.hi + c.of.result.hi)
    (omega arith) (omega arith) c.payment_at-in-loop-k.ensures.value c.loop-k.invariant.high (omega (arith, c.scale.ensures.hi, c.of.ensures.hi)) in
    let small = turn-fits c.args.flows.now c.args.discount.lo c.args.discount.hi (c.loop-k.k - 1) (c.scale.result.hi + c.of.result.hi) c.n-last.ensures.bounds c.requires (omega arith) next in
    omega (arith, small)

pub loop-k-preserved : goal.loop-k-preserved
loop-k-preserved c = record {
  low =
      turn-low (rule.payment_at c.args.flows.now) c.args.discount.lo c.args.flows.now.n c.loop-k.k c.payment_at-in-loop-k.result c.loop-k.sum.lo c.add-sum.result.lo
      (omega arith) (omega arith) c.payment_at-in-loop-k.ensures.value c.loop-k.invariant.low (omega (arith, c.add-sum.ensures.lo, c.scale.ensures.lo, c.of.ensures.lo));
  high =
      turn-high (rule.payment_at c.args.flows.now) c.args.discount.hi c.args.flows.now.n c.loop-k.k c.payment_at-in-loop-k.result c.loop-k.sum.hi c.add-sum.result.hi
      (omega arith) (omega arith) c.payment_at-in-loop-k.ensures.value c.loop-k.invariant.high (omega (arith, c.add-sum.ensures.hi, c.scale.ensures.hi, c.of.ensures.hi));
}

pub returns-clause-small : goal.returns-clause-small
returns-clause-small c = turn-fits c.args.flows.now c.args.discount.lo c.args.discount.hi c.loop-k.k c.loop-k.sum.hi c.n-last.ensures.bounds c.requires (omega arith) c.loop-k.invariant.high
