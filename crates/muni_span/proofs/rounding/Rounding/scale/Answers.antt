use Rattle.std.proofs.Common.{◌*◌, ◌^◌, arith, lit<}
use Rattle.muni_span.proofs.Quotients.{by_halves, scaled_fits}
use Rattle.muni_span.proofs.rounding.Rounding.scale.Goals as goal

pub overflow_mul-result-else-upper-eq0 : goal.overflow_mul-result-else-upper-eq0
overflow_mul-result-else-upper-eq0 c =
    let whole = by_halves 16 (2 ^ 60) c.args.amount c.args.factor 0 (lit< tt) in
    let small = scaled_fits (c.args.amount * c.args.factor) 0 c.requires (lit< tt) in
    omega (arith, whole, small)

pub overflow_add-result : goal.overflow_add-result
overflow_add-result c =
    let whole = by_halves 16 (2 ^ 60) c.args.amount c.args.factor c.carry.result (lit< tt) in
    let small = scaled_fits (c.args.amount * c.args.factor) c.carry.result c.requires c.carry.ensures.below_one in
    omega (arith, whole, small)

pub returns-else-upper-eq0 : goal.returns-else-upper-eq0
returns-else-upper-eq0 c = rw (← c.carry.ensures.value) (by_halves 16 (2 ^ 60) c.args.amount c.args.factor c.carry.result (lit< tt))
