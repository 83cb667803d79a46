use Rattle.std.proofs.Common.{◌≡◌, ◌+◌, ◌-◌, arith}
use Rattle.muni_multi.specs.Horner.{sum_high}
use Rattle.muni_risk.specs.Sums.{weighted}
use Rattle.muni_risk.proofs.Turns.{next-low, next-high, turn-fits, product-fits}
use Rattle.muni_risk.proofs.sums.with_payment.Goals as goal

pub scale-requires : goal.scale-requires
scale-requires c =
    let fits = turn-fits c.args.flows.now c.args.weight c.args.discount.lo c.args.discount.hi (c.args.k + 1) c.args.later.hi c.weighted.ensures.bounds c.requires.discount (omega arith) c.requires.later.high in
    let product = product-fits c.args.discount.lo c.args.discount.hi c.args.later.hi c.requires.discount fits in
    omega (arith, product)

pub add-requires : goal.add-requires
add-requires c =
    let next : c.scale.result.hi + c.exactly-payment.result.hi ≡ sum_high (weighted c.args.weight c.args.flows.now) c.args.discount.hi (c.args.flows.now.n - c.args.k) c.args.k
    = next-high (weighted c.args.weight c.args.flows.now) c.args.discount.hi c.args.flows.now.n c.args.k c.args.later.hi (c.scale.result.hi + c.exactly-payment.result.hi)
    c.requires.place c.requires.later.high (omega (arith, c.scale.ensures.hi, c.exactly-payment.ensures.hi, c.weighted.ensures.value)) in
    let small = turn-fits c.args.flows.now c.args.weight c.args.discount.lo c.args.discount.hi c.args.k (c.scale.result.hi + c.exactly-payment.result.hi) c.weighted.ensures.bounds c.requires.discount (omega arith) next in
    omega (arith, small)

pub returns : goal.returns
returns c = record {
  low =
      next-low (weighted c.args.weight c.args.flows.now) c.args.discount.lo c.args.flows.now.n c.args.k c.args.later.lo c.add.result.lo
      c.requires.place c.requires.later.low (omega (arith, c.add.ensures.lo, c.scale.ensures.lo, c.exactly-payment.ensures.lo, c.weighted.ensures.value));
  high =
      next-high (weighted c.args.weight c.args.flows.now) c.args.discount.hi c.args.flows.now.n c.args.k c.args.later.hi c.add.result.hi
      c.requires.place c.requires.later.high (omega (arith, c.add.ensures.hi, c.scale.ensures.hi, c.exactly-payment.ensures.hi, c.weighted.ensures.value));
}
