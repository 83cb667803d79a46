use Rattle.std.proofs.Common.{◌*◌, ◌^◌, ◌≤◌, arith}
use Rattle.std.proofs.Math.Nat.{mul-le-mul}
use Rattle.muni_multi.proofs.doubling.level_from_half.Goals as goal

pub scale-requires : goal.scale-requires
scale-requires c =
    let product : c.args.half.hi * c.args.factor.hi ≤ 2 ^ 66 * (15 * 2 ^ 60) = mul-le-mul c.requires.half c.requires.fits in
    omega (arith, product)
