-- The ends of a discount factor, for every divisor of a yield in range.
use Rattle.std.proofs.Common.{◌≡◌, ℕ, ◌+◌, ◌-◌, ◌*◌, ◌/◌, ◌^◌, ◌<◌, ◌≤◌, arith}
use Rattle.std.proofs.Math.Nat.{mul-le-mul_left, le_of_mul-le-mul_right, lt_of_mul-lt-mul_right}
use Rattle.muni_span.specs.Holding.{HoldsPower}
use Rattle.muni_span.proofs.Holding.{fraction_holds}
use Rattle.muni_span.proofs.Quotients.{IsRounded, rounded_plain}

-- two million divided by d lies between the ends, which are one apart at most, from 0.6 to 1.0257
pub record IsRecipSpan (d lo hi : ℕ) : Type 0 where
  pub encloses : (j : ℕ) → HoldsPower (2 ^ 60) lo hi j (2000000 ^ j) (d ^ j)
  pub ordered : lo ≤ hi
  pub narrow : hi ≤ lo + 1
  pub at_least : 6 * 2 ^ 60 ≤ 10 * lo
  pub at_most : 10000 * hi ≤ 10257 * 2 ^ 60

ends_of : (d lo hi : ℕ) → 1949995 ≤ d → d ≤ 3000005 → IsRounded d (2000000 * 2 ^ 60) (2000000 * 2 ^ 60) lo hi → IsRecipSpan d lo hi
ends_of d lo hi least greatest round =
    let under : lo * d ≤ 2000000 * 2 ^ 60 = round.floor_under in
    let floor : 2000000 * 2 ^ 60 ≤ lo * d + d = round.floor_near in
    let over : 2000000 * 2 ^ 60 ≤ hi * d = round.ceiling_over in
    let ceiling : hi * d < 2000000 * 2 ^ 60 + d = round.ceiling_near in
    let pos : 0 < d = omega arith in
    let order : lo * d ≤ hi * d = omega arith in
    let near : hi * d < (lo + 2) * d = omega arith in
    let less : hi < lo + 2 = lt_of_mul-lt-mul_right d near in
    let most : lo * d ≤ lo * 3000005 = mul-le-mul_left lo greatest in
    let some : hi * 1949995 ≤ hi * d = mul-le-mul_left hi least in
    record {
      encloses = λ j. fraction_holds (2 ^ 60) lo hi j 2000000 d under over;
      ordered = le_of_mul-le-mul_right order pos;
      narrow = omega arith;
      at_least = omega arith;
      at_most = omega arith;
    }

pub recip_span : (d lo hi : ℕ) → 1949995 ≤ d → d ≤ 3000005 → lo ≡ 2000000 * 2 ^ 60 / d → hi ≡ (2000000 * 2 ^ 60 + (d - 1)) / d → IsRecipSpan d lo hi
recip_span d lo hi least greatest low high =
    ends_of d lo hi least greatest (rounded_plain d (2000000 * 2 ^ 60) (2000000 * 2 ^ 60) lo hi (let pos : 0 < d = omega arith in pos) low high)
