use Rattle.std.proofs.Common.{◌*◌, ◌^◌, ◌≤◌, sym, subst, arith}
use Rattle.std.proofs.Math.Nat.{mul-le-mul}
use Rattle.muni_multi.proofs.DoublingTurns.{power-fits}
use Rattle.muni_multi.proofs.HornerTurns.{factor-small}
use Rattle.muni_multi.proofs.doubling.paid_sum.Goals as goal

pub returns-clause-small : goal.returns-clause-small
returns-clause-small c =
    let level = c.level_sum-level.result.0.hi in
    let factor = c.level_sum-level.result.1.hi in
    let growth = factor-small c.args.discount.lo c.args.discount.hi c.requires.discount in
    let year : c.args.discount.hi ≤ 2 * 2 ^ 60 = omega (arith, growth) in
    let reach : factor ≤ 15 * 2 ^ 60 = subst (λ x. x ≤ 15 * 2 ^ 60) (sym c.level_sum-level.ensures.factor_hi) (power-fits c.args.discount.lo c.args.discount.hi c.args.after c.requires.discount c.requires.few) in
    let amount : c.of.result.hi ≤ 300000000000000000 = omega (arith, c.of.ensures.hi, c.redemption.ensures.range) in
    let later : level * c.args.discount.hi ≤ 2 ^ 66 * (2 * 2 ^ 60) = mul-le-mul c.level_sum-level.ensures.small year in
    let redeemed : c.of.result.hi * factor ≤ 300000000000000000 * (15 * 2 ^ 60) = mul-le-mul amount reach in
    omega (arith, later, redeemed, c.add-2.ensures.hi, c.add.ensures.hi, c.scale.ensures.hi, c.scale-redeemed.ensures.hi, c.of-2.ensures.hi, c.first.ensures.range)
