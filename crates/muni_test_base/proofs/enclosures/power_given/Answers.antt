use Rattle.std.proofs.Common.{◌^◌, ◌≤◌, arith}
use Rattle.std.proofs.Math.Nat.{pow-le-pow_left}
use Rattle.muni_test_base.proofs.enclosures.power_given.Goals as goal

pub power-requires-clause-bounded : goal.power-requires-clause-bounded
power-requires-clause-bounded c =
    let less : c.in_ok-base.base.hi ≤ c.greatest_base.result = omega arith in
    let powers : c.in_ok-base.base.hi ^ c.in_ok-k.k ≤ c.greatest_base.result ^ c.in_ok-k.k = pow-le-pow_left less c.in_ok-k.k in
    omega arith
