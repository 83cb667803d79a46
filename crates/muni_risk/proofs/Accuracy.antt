-- From the ends of two sums to the accuracy of a printed figure.
use Rattle.std.proofs.Common.{ℕ, ◌+◌, ◌*◌, ◌^◌, ◌<◌, ◌≤◌, arith}
use Rattle.std.proofs.Math.Nat.{mul-le-mul_left, mul-le-mul_right, le_of_mul-le-mul_right}

-- The sums t and w, counted alike, between ends: of t the lower one p and the upper one q, both in 2^-44, and
-- of w the upper one u and the lower one o in 2^-60. The whole is u in 2^-44, rounded up.
pub record AreEnds (t w x p q o u whole : ℕ) : Type 0 where
  pub sum_low : p * x ≤ 2 ^ 44 * t
  pub sum_high : 2 ^ 44 * t ≤ q * x
  pub sum_narrow : 2 ^ 60 * q ≤ 2 ^ 60 * p + 198 * q + 900 * 2 ^ 60
  pub whole_low : o * x ≤ 2 ^ 60 * w
  pub whole_high : 2 ^ 60 * w ≤ u * x
  pub whole_narrow : 2 ^ 60 * u ≤ 2 ^ 60 * o + 198 * u + 900 * 2 ^ 60
  pub whole_some : 2 ^ 60 ≤ o
  pub over : u ≤ 2 ^ 16 * whole
  pub near : 2 ^ 16 * whole ≤ u + 2 ^ 16
  pub ordered : o ≤ u

-- the quotient of the lower end and the whole is at most that of the sums
quotient-below : (t w x p q o u whole : ℕ) → AreEnds t w x p q o u whole → p * w ≤ whole * t
quotient-below t w x p q o u whole ends =
    let one : (p * x) * w ≤ (2 ^ 44 * t) * w = mul-le-mul_right w ends.sum_low in
    let two : u * x ≤ (2 ^ 16 * whole) * x = mul-le-mul_right x ends.over in
    let high = ends.whole_high in
    let three : 2 ^ 60 * w ≤ 2 ^ 16 * whole * x = omega (arith, two, high) in
    let four : (2 ^ 60 * w) * p ≤ (2 ^ 16 * whole * x) * p = mul-le-mul_right p three in
    let five : (p * x) * whole ≤ (2 ^ 44 * t) * whole = mul-le-mul_right whole ends.sum_low in
    omega (arith, four, five)

-- and that of the sums is greater by 2^-43 and 2^-52 at most, and by 900 units of the sum
quotient-above : (t w x p q o u whole : ℕ) → AreEnds t w x p q o u whole → 2 ^ 43 * 2 ^ 52 * (t * whole) ≤ (2 ^ 43 + 1) * (2 ^ 52 + 1) * ((p + 900) * w)
quotient-above t w x p q o u whole ends =
    let narrow = ends.whole_narrow in
    let near = ends.near in
    let some = ends.whole_some in
    let cut : 2 ^ 59 * whole ≤ (2 ^ 43 + 1) * o = omega (arith, narrow, near, some) in
    let sum = ends.sum_narrow in
    let wide : 2 ^ 52 * q ≤ (2 ^ 52 + 1) * (p + 900) = omega (arith, sum) in
    let one : (2 ^ 44 * t) * o ≤ (q * x) * o = mul-le-mul_right o ends.sum_high in
    let two : (o * x) * q ≤ (2 ^ 60 * w) * q = mul-le-mul_right q ends.whole_low in
    let three : t * o ≤ 2 ^ 16 * (q * w) = omega (arith, one, two) in
    let four : (2 ^ 59 * whole) * t ≤ ((2 ^ 43 + 1) * o) * t = mul-le-mul_right t cut in
    let five : (2 ^ 52 * q) * w ≤ ((2 ^ 52 + 1) * (p + 900)) * w = mul-le-mul_right w wide in
    omega (arith, three, four, five)

whole-some : (t w x p q o u whole : ℕ) → AreEnds t w x p q o u whole → 2 ^ 44 ≤ whole
whole-some t w x p q o u whole ends =
    let some = ends.whole_some in
    let ordered = ends.ordered in
    let over = ends.over in
    omega (arith, some, ordered, over)

-- a figure f that is the nearest of the quotient of the ends, times by and divided by over, is printed for that
-- of the sums
pub near-below : (t w x p q o u whole f by over : ℕ) → AreEnds t w x p q o u whole → 2 * f * (whole * over) ≤ 2 * (p * by) + whole * over → 2 * f * (over * w) ≤ 2 * (t * by) + over * w
near-below t w x p q o u whole f by over ends nearest =
    let quotient = quotient-below t w x p q o u whole ends in
    let some = whole-some t w x p q o u whole ends in
    let one : (2 * f * (whole * over)) * w ≤ (2 * (p * by) + whole * over) * w = mul-le-mul_right w nearest in
    let two : (p * w) * by ≤ (whole * t) * by = mul-le-mul_right by quotient in
    let all : (2 * f * (over * w)) * whole ≤ (2 * (t * by) + over * w) * whole = omega (arith, one, two) in
    le_of_mul-le-mul_right all (omega (arith, some))

-- no figure is greater than this
figure-limit : (p whole f by over most : ℕ) → 0 < whole → p ≤ most * whole → 2 * (most * by) ≤ 5_390_000 * over → 2 * f * (whole * over) ≤ 2 * (p * by) + whole * over → 2 * f * over ≤ 5_390_001 * over
figure-limit p whole f by over most some sum limit nearest =
    let one : p * by ≤ most * whole * by = mul-le-mul_right by sum in
    let two : 2 * (most * by) * whole ≤ 5_390_000 * over * whole = mul-le-mul_right whole limit in
    let all : (2 * f * over) * whole ≤ (5_390_001 * over) * whole = omega (arith, nearest, one, two) in
    le_of_mul-le-mul_right all some

joined-above : (t w p whole f by over : ℕ) → 2 ^ 44 ≤ whole → 2 ^ 43 * 2 ^ 52 * (t * whole) ≤ (2 ^ 43 + 1) * (2 ^ 52 + 1) * ((p + 900) * w) → 2 ^ 53 * (2 * (p * by)) ≤ (2 ^ 53 + 1) * (2 * f * (whole * over) + whole * over) + 2 * (whole * by)
    → 2 ^ 148 * (2 * (t * by)) ≤ (2 ^ 43 + 1) * (2 ^ 52 + 1) * ((2 ^ 53 + 1) * (2 * f * over * w + over * w) + 921_602 * (by * w))
joined-above t w p whole f by over some quotient nearest =
    let one : 2 ^ 43 * 2 ^ 52 * (t * whole) * by ≤ (2 ^ 43 + 1) * (2 ^ 52 + 1) * ((p + 900) * w) * by = mul-le-mul_right by quotient in
    let two : 2 ^ 53 * (2 * (p * by)) * w ≤ ((2 ^ 53 + 1) * (2 * f * (whole * over) + whole * over) + 2 * (whole * by)) * w = mul-le-mul_right w nearest in
    let three : 2 ^ 44 * (by * w) ≤ whole * (by * w) = mul-le-mul_right (by * w) some in
    let all : 2 ^ 148 * (2 * (t * by)) * whole ≤ (2 ^ 43 + 1) * (2 ^ 52 + 1) * ((2 ^ 53 + 1) * (2 * f * over * w + over * w) + 921_602 * (by * w)) * whole = omega (arith, one, two, three) in
    le_of_mul-le-mul_right all (omega (arith, some))

pub near-above : (t w x p q o u whole f by over most : ℕ) → AreEnds t w x p q o u whole → p ≤ most * whole → 2 * (most * by) ≤ 5_390_000 * over → by ≤ 3 * over → 2 * f * (whole * over) ≤ 2 * (p * by) + whole * over
    → 2 ^ 53 * (2 * (p * by)) ≤ (2 ^ 53 + 1) * (2 * f * (whole * over) + whole * over) + 2 * (whole * by)
    → 2_000_000 * (t * by) ≤ 2_000_000 * f * (over * w) + 1_000_002 * (over * w)
near-above t w x p q o u whole f by over most ends sum limit few above below =
    let some = whole-some t w x p q o u whole ends in
    let joined = joined-above t w p whole f by over some (quotient-above t w x p q o u whole ends) below in
    let figure = figure-limit p whole f by over most (omega (arith, some)) sum limit above in
    let one : 2 * f * over * w ≤ 5_390_001 * over * w = mul-le-mul_right w figure in
    let two : by * w ≤ 3 * over * w = mul-le-mul_right w few in
    omega (arith, joined, one, two)

-- the lower end of the sum is at most so many times the whole, if each payment of the one sum is that many
-- times one of the other at most
pub sum-most : (t w x p q o u whole most : ℕ) → 0 < x → AreEnds t w x p q o u whole → t ≤ most * w → p ≤ most * whole
sum-most t w x p q o u whole most some ends times =
    let low = ends.sum_low in
    let one : 2 ^ 44 * t ≤ 2 ^ 44 * (most * w) = mul-le-mul_left (2 ^ 44) times in
    let two : most * (2 ^ 60 * w) ≤ most * (u * x) = mul-le-mul_left most ends.whole_high in
    let three : most * x * u ≤ most * x * (2 ^ 16 * whole) = mul-le-mul_left (most * x) ends.over in
    let all : p * x ≤ most * whole * x = omega (arith, low, one, two, three) in
    le_of_mul-le-mul_right all some
