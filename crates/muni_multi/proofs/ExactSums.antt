-- The sums of two payments and of three are small.
use Rattle.std.proofs.Common.{ℕ, ◌+◌, ◌*◌, ◌^◌, ◌≤◌, arith}
use Rattle.std.proofs.Math.Nat.{mul-le-mul}

pub three-small : (v p q r : ℕ) → v ≤ 3000005 → p ≤ 82800000000000 → q ≤ 82800000000000 → r ≤ 82800000000000 → (p * v + q * 2000000) * v + r * 4000000000000 ≤ 2 ^ 91
three-small v p q r divisor first second third =
    let one : p * v ≤ 82800000000000 * 3000005 = mul-le-mul first divisor in
    let two : p * v + q * 2000000 ≤ 82800000000000 * 5000005 = omega arith in
    let three : (p * v + q * 2000000) * v ≤ 82800000000000 * 5000005 * 3000005 = mul-le-mul two divisor in
    omega (arith, three)
