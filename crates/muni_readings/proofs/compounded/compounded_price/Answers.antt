use Rattle.std.proofs.Common.{◌+◌, ◌-◌, ◌/◌, refl, arith}
use Rattle.std.specs.Prelude.{unsigned_abs}
use Rattle.std.proofs.lemmas.Int.{ints}
use Rattle.muni_readings.proofs.CompoundedLemmas.{worth-at, price-some, price-near, price-below}
use Rattle.muni_readings.proofs.compounded.compounded_price.Goals as goal

pub returns-then-low-accrued-clause-exact : goal.returns-then-low-accrued-clause-exact
returns-then-low-accrued-clause-exact c =
    let payment = c.args.payment.now in
    let least = c.requires.single.accrued.0 in
    let most = c.requires.single.accrued.1 in
    let lo = c.lo.ensures in
    let test = c.if-low-accrued.true in
    let units = c.units.ensures.value in
    let least_y = c.requires.y.0 in
    let most_y = c.requires.y.1 in
    let small = c.compounded_worth-worth.ensures.small in
    let order = c.compounded_worth-worth.result.ordered in
    price-below payment c.args.y c.compounded_worth-worth.result.lo c.compounded_worth-worth.result.hi (unsigned_abs payment.accrued) c.requires.y (worth-at payment c.args.y _ c.compounded_worth-worth.result.lo c.compounded_worth-worth.result.hi (omega (arith, ints, units, least_y, most_y)) c.compounded_worth-worth.ensures.holds c.compounded_worth-worth.ensures.narrow small) refl (omega (arith, ints, least, most, lo, test, small, order))

pub returns-then-hi-from-clause-exact : goal.returns-then-hi-from-clause-exact
returns-then-hi-from-clause-exact c =
    let payment = c.args.payment.now in
    let least = c.requires.single.accrued.0 in
    let most = c.requires.single.accrued.1 in
    let lo = c.lo.ensures in
    let hi = c.hi.ensures in
    let from = c.from.ensures in
    let new = c.new.ensures in
    let enough = c.if-low-accrued.false in
    let test = c.if-hi-from.true in
    let units = c.units.ensures.value in
    let least_y = c.requires.y.0 in
    let most_y = c.requires.y.1 in
    let small = c.compounded_worth-worth.ensures.small in
    let order = c.compounded_worth-worth.result.ordered in
    price-some payment c.args.y c.compounded_worth-worth.result.lo c.compounded_worth-worth.result.hi (unsigned_abs payment.accrued) c.new.result c.requires.y (worth-at payment c.args.y _ c.compounded_worth-worth.result.lo c.compounded_worth-worth.result.hi (omega (arith, ints, units, least_y, most_y)) c.compounded_worth-worth.ensures.holds c.compounded_worth-worth.ensures.narrow small) refl
    (omega (arith, ints, least, most, lo, enough, small, order))
    (omega (arith, ints, least, most, lo, new, enough, small, order))
    (omega (arith, ints, least, most, lo, hi, from, new, enough, test, small, order))

pub returns-else-hi-from-clause-exact : goal.returns-else-hi-from-clause-exact
returns-else-hi-from-clause-exact c =
    let payment = c.args.payment.now in
    let least = c.requires.single.accrued.0 in
    let most = c.requires.single.accrued.1 in
    let lo = c.lo.ensures in
    let hi = c.hi.ensures in
    let from = c.from.ensures in
    let enough = c.if-low-accrued.false in
    let test = c.if-hi-from.false in
    let units = c.units.ensures.value in
    let least_y = c.requires.y.0 in
    let most_y = c.requires.y.1 in
    let small = c.compounded_worth-worth.ensures.small in
    let order = c.compounded_worth-worth.result.ordered in
    let accrued = unsigned_abs payment.accrued in
    price-near payment c.args.y c.compounded_worth-worth.result.lo c.compounded_worth-worth.result.hi accrued ((c.compounded_worth-worth.result.lo / 4096 - accrued) / 360000000 + 1) c.requires.y (worth-at payment c.args.y _ c.compounded_worth-worth.result.lo c.compounded_worth-worth.result.hi (omega (arith, ints, units, least_y, most_y)) c.compounded_worth-worth.ensures.holds c.compounded_worth-worth.ensures.narrow small) refl
    (omega (arith, ints, least, most, lo, enough, small, order))
    (omega (arith, ints, least, most, lo, hi, from, enough, test, small, order))
