-- The order of fractions, over plain numbers.
use Rattle.std.proofs.Common.{ℕ, ◌*◌, ◌^◌, ◌<◌, ◌≤◌, arith}
use Rattle.std.proofs.Math.Nat.{mul-le-mul, mul-le-mul_right, le_of_mul-le-mul_right, pow-le-pow_left}
use Rattle.std.proofs.lemmas.Nat.{mul-pow}
use Rattle.muni_span.specs.Fractions.{IsAtMost}

-- a fraction between two others
pub at_most-then : (a b c d e f : ℕ) → 0 < d → IsAtMost a b c d → IsAtMost c d e f → IsAtMost a b e f
at_most-then a b c d e f pos one two =
    let first : a * d * f ≤ c * b * f = mul-le-mul_right f one.cross in
    let second : c * f * b ≤ e * d * b = mul-le-mul_right b two.cross in
    let both : a * f * d ≤ e * b * d = omega arith in
    record { cross = le_of_mul-le-mul_right both pos }

-- products keep the order
pub at_most-times : (a b c d e f g h : ℕ) → IsAtMost a b c d → IsAtMost e f g h → IsAtMost (a * e) (b * f) (c * g) (d * h)
at_most-times a b c d e f g h one two =
    let product : a * d * (e * h) ≤ c * b * (g * f) = mul-le-mul one.cross two.cross in
    record { cross = omega arith }

-- powers keep the order
pub at_most-power : (a b c d k : ℕ) → IsAtMost a b c d → IsAtMost (a ^ k) (b ^ k) (c ^ k) (d ^ k)
at_most-power a b c d k one =
    let raised : (a * d) ^ k ≤ (c * b) ^ k = pow-le-pow_left one.cross k in
    record { cross = rw (mul-pow a d k, mul-pow c b k) at raised }
