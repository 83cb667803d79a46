use Rattle.std.proofs.Common.{◌≡◌, pos, unsigned_abs, arith, to_z, of_z, w32, w64}
use Rattle.std.proofs.lemmas.Int.{ints}
use Rattle.muni_simple.proofs.AnswerLemmas.{within_shape}
use Rattle.muni_simple.proofs.yields.single_yield.Goals as goal

pub returns-clause-exact : goal.returns-clause-exact
returns-clause-exact c =
    let due : pos (unsigned_abs (to_z w64 (of_z w64 c.args.single.now.due))) ≡ c.args.single.now.due = omega (arith, ints) in
    let accrued : pos (unsigned_abs (to_z w64 (of_z w64 c.args.single.now.accrued))) ≡ c.args.single.now.accrued = omega (arith, ints) in
    let left : pos (unsigned_abs (to_z w32 (of_z w32 c.args.single.now.left))) ≡ c.args.single.now.left = omega (arith, ints) in
    rw (c.least_magnitude.ensures.value, c.amount_of.ensures.value, due, accrued, left) at c.yield_at.ensures.exact

pub returns-clause-range : goal.returns-clause-range
returns-clause-range c = within_shape c.args.shape c.yield_at.result (rw c.least_magnitude.ensures.value at c.yield_at.ensures.range)
