-- What products, powers, roots and sums of enclosures hold.
use Rattle.std.proofs.Common.{◌≡◌, ℕ, ◌+◌, ◌*◌, ◌^◌, ◌<◌, ◌≤◌, arith}
use Rattle.std.proofs.Math.Nat.{mul-le-mul_right, mul-pos, one-le-pow}
use Rattle.std.proofs.lemmas.Nat.{mul-pow}
use Rattle.muni_span.specs.Fractions.{IsAtMost}
use Rattle.muni_span.specs.Holding.{HoldsPower}
use Rattle.muni_span.proofs.Fractions.{at_most-then, at_most-times, at_most-power}
use Rattle.muni_rule.proofs.PowerLemmas.{pow-one, pow-times, pow-turned}
use Rattle.muni_span.proofs.Quotients.{IsRounded}

-- an end's power, if the end is at most a product
product_power : (a b c d e f j : ℕ) → IsAtMost a b (c * e) (d * f) → IsAtMost (a ^ j) (b ^ j) (c ^ j * e ^ j) (d ^ j * f ^ j)
product_power a b c d e f j law = rw (← mul-pow c e j, ← mul-pow d f j) (at_most-power a b (c * e) (d * f) j law)

power_product : (a b c d e f j : ℕ) → IsAtMost (c * e) (d * f) a b → IsAtMost (c ^ j * e ^ j) (d ^ j * f ^ j) (a ^ j) (b ^ j)
power_product a b c d e f j law = rw (← mul-pow c e j, ← mul-pow d f j) (at_most-power (c * e) (d * f) a b j law)

-- a product of ends in units of 1 / t with ends in units of 1 / u
pub product_holds : (t u a b p q l h j n d m e : ℕ) → 0 < t → 0 < u → IsRounded u (a * p) (b * q) l h → HoldsPower t a b j n d → HoldsPower u p q j m e → HoldsPower t l h j (n * m) (d * e)
product_holds t u a b p q l h j n d m e one two round first second =
    let floor : l * u * t ≤ a * p * t = mul-le-mul_right t round.floor_under in
    let ceiling : b * q * t ≤ h * u * t = mul-le-mul_right t round.ceiling_over in
    let units : 0 < t ^ j * u ^ j = mul-pos (one-le-pow j t one) (one-le-pow j u two) in
    record {
      below = at_most-then (l ^ j) (t ^ j) (a ^ j * p ^ j) (t ^ j * u ^ j) (n * m) (d * e) units
          (product_power l t a t p u j (record { cross = omega arith }))
          (at_most-times (a ^ j) (t ^ j) n d (p ^ j) (u ^ j) m e first.below second.below);
      above = at_most-then (n * m) (d * e) (b ^ j * q ^ j) (t ^ j * u ^ j) (h ^ j) (t ^ j) units
          (at_most-times n d (b ^ j) (t ^ j) m e (q ^ j) (u ^ j) first.above second.above)
          (power_product h t b t q u j (record { cross = omega arith }));
    }

-- a power of enclosures
pub power_holds : (u a b k l h j n d : ℕ) → 0 < u → IsAtMost l u (a ^ k) (u ^ k) → IsAtMost (b ^ k) (u ^ k) h u → HoldsPower u a b j n d → HoldsPower u l h j (n ^ k) (d ^ k)
power_holds u a b k l h j n d pos low high held =
    let unit : 0 < (u ^ j) ^ k = one-le-pow k (u ^ j) (one-le-pow j u pos) in
    let lower : IsAtMost (l ^ j) (u ^ j) ((a ^ j) ^ k) ((u ^ j) ^ k) = rw (pow-turned a j k, pow-turned u j k) (at_most-power l u (a ^ k) (u ^ k) j low) in
    let upper : IsAtMost ((b ^ j) ^ k) ((u ^ j) ^ k) (h ^ j) (u ^ j) = rw (pow-turned b j k, pow-turned u j k) (at_most-power (b ^ k) (u ^ k) h u j high) in
    record {
      below = at_most-then (l ^ j) (u ^ j) ((a ^ j) ^ k) ((u ^ j) ^ k) (n ^ k) (d ^ k) unit lower (at_most-power (a ^ j) (u ^ j) n d k held.below);
      above = at_most-then (n ^ k) (d ^ k) ((b ^ j) ^ k) ((u ^ j) ^ k) (h ^ j) (u ^ j) unit (at_most-power n d (b ^ j) (u ^ j) k held.above) upper;
    }

-- the k-th roots of what an enclosure holds
pub root_holds : (u a b k q r j n d : ℕ) → 0 < u → IsAtMost (q ^ k) (u ^ k) a u → IsAtMost b u (r ^ k) (u ^ k) → HoldsPower u a b j n d → HoldsPower u q r (k * j) n d
root_holds u a b k q r j n d pos low high held =
    let unit : 0 < u ^ j = one-le-pow j u pos in
    let lower : IsAtMost (q ^ (k * j)) (u ^ (k * j)) (a ^ j) (u ^ j) = rw (pow-times q k j, pow-times u k j) (at_most-power (q ^ k) (u ^ k) a u j low) in
    let upper : IsAtMost (b ^ j) (u ^ j) (r ^ (k * j)) (u ^ (k * j)) = rw (pow-times r k j, pow-times u k j) (at_most-power b u (r ^ k) (u ^ k) j high) in
    record {
      below = at_most-then (q ^ (k * j)) (u ^ (k * j)) (a ^ j) (u ^ j) n d unit lower held.below;
      above = at_most-then n d (b ^ j) (u ^ j) (r ^ (k * j)) (u ^ (k * j)) unit held.above upper;
    }

-- a fraction between two ends
pub fraction_holds : (u l h j n d : ℕ) → l * d ≤ n * u → n * u ≤ h * d → HoldsPower u l h j (n ^ j) (d ^ j)
fraction_holds u l h j n d low high = record {
  below = at_most-power l u n d j (record { cross = low });
  above = at_most-power n d h u j (record { cross = high });
}

-- a sum of two enclosures
pub sum_holds : (u a b p q n d m e : ℕ) → HoldsPower u a b 1 n d → HoldsPower u p q 1 m e → HoldsPower u (a + p) (b + q) 1 (n * e + m * d) (d * e)
sum_holds u a b p q n d m e first second =
    let one : a ^ 1 * d ≤ n * u ^ 1 = first.below.cross in
    let two : p ^ 1 * e ≤ m * u ^ 1 = second.below.cross in
    let three : n * u ^ 1 ≤ b ^ 1 * d = first.above.cross in
    let four : m * u ^ 1 ≤ q ^ 1 * e = second.above.cross in
    let first_low : a * d * e ≤ n * u * e = mul-le-mul_right e (rw (pow-one a, pow-one u) at one) in
    let second_low : p * e * d ≤ m * u * d = mul-le-mul_right d (rw (pow-one p, pow-one u) at two) in
    let first_high : n * u * e ≤ b * d * e = mul-le-mul_right e (rw (pow-one b, pow-one u) at three) in
    let second_high : m * u * d ≤ q * e * d = mul-le-mul_right d (rw (pow-one q, pow-one u) at four) in
    record {
      below = record { cross = rw (pow-one (a + p), pow-one u) (omega arith) };
      above = record { cross = rw (pow-one (b + q), pow-one u) (omega arith) };
    }

-- a whole number of units
pub whole_holds : (u n j : ℕ) → HoldsPower u (u * n) (u * n) j (n ^ j) 1
whole_holds u n j =
    let split : (u * n) ^ j ≡ u ^ j * n ^ j = mul-pow u n j in record {
      below = record { cross = rw split (omega arith) };
      above = record { cross = rw split (omega arith) };
    }
