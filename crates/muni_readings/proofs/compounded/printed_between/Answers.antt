use Rattle.std.proofs.Common.{◌≡◌, ◌+◌, ◌*◌, pos, arith}
use Rattle.std.proofs.lemmas.Int.{ints}
use Rattle.muni_yield.specs.Places.{yield_at}
use Rattle.muni_readings.proofs.CompoundedLemmas.{yield-printed}
use Rattle.muni_readings.proofs.compounded.printed_between.Goals as goal

pub returns : goal.returns
returns c =
    let invariant = c.loop-high.invariant in
    let rising = invariant.rising in
    let beside : c.loop-high.high ≡ c.loop-high.low + 1 = (let test = c.loop-high-test.false in omega (arith, rising, test)) in
    let is : c.new.result ≡ yield_at c.loop-high.low = (let from = c.from.ensures in let new = c.new.ensures in omega (arith, ints, from, new)) in
    yield-printed c.args.payment.now (pos (360000 * c.args.price)) c.loop-high.low c.loop-high.high c.new.result c.requires.least c.requires.past invariant.reached invariant.not_reached beside is
