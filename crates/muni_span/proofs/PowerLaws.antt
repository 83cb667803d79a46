-- The ends of a power enclose the exact powers, and are near each other.
use Rattle.std.proofs.Common.{◌≡◌, ℕ, suc, zero, ◌+◌, ◌-◌, ◌*◌, ◌/◌, ◌^◌, ◌<◌, ◌≤◌, ◌⊎◌, max, min, refl, sym, ap, subst, ⊎_elim, arith, lit≤, lit<}
use Rattle.std.proofs.Math.Nat.{mul-le-mul, mul-le-mul_left, mul-le-mul_right, le_of_mul-le-mul_right, lt-div-mul-add, pow-le-pow_left, mul-pos, pow-suc, pow-zero, one-le-pow}
use Rattle.std.proofs.lemmas.Nat.{pow-add}
use Rattle.muni_span.specs.Fractions.{IsAtMost}
use Rattle.muni_span.specs.Powers.{product_end, power_from_half, power_by, power_end, power_low, power_high}
use Rattle.muni_span.specs.Widths.{whole_above}
use Rattle.muni_span.proofs.Fractions.{at_most-then, at_most-times}
use Rattle.muni_rule.proofs.PowerLemmas.{pow-one}
use Rattle.muni_span.proofs.Quotients.{IsRounded, rounded}
use Rattle.muni_span.proofs.PowerWidths.{IsSmall, IsLarge, ordered, small_product, large_product, small_cut, large_cut, shares}
use Rattle.muni_span.proofs.Squaring.{even_or_odd, one_or_more, from_half-even, from_half-odd, power_by-first, power_by-more, power_end-none, power_end-some}

-- `lo` and `hi` enclose the k-th powers of `a` and `b`, and each step adds the width of the base and 2 to theirs
pub record IsPower (u a b k lo hi : ℕ) : Type 0 where
  pub below : IsAtMost lo u (a ^ k) (u ^ k)
  pub above : IsAtMost (b ^ k) (u ^ k) hi u
  pub ordered : lo ≤ hi
  pub small : b ≤ u → IsSmall u (k * (b - a + 2) - 2) lo hi
  pub large : u ≤ b → IsLarge u (k * (b - a + 2) - 2) lo hi

-- the rounded product of two powers' ends, below and above the power with the sum of their exponents
product_below : (u a m n p q l t : ℕ) → 0 < u → l * u ≤ p * q → IsAtMost p u (a ^ m) (u ^ m) → IsAtMost q u (a ^ n) (u ^ n) → IsAtMost (min l t) u (a ^ (m + n)) (u ^ (m + n))
product_below u a m n p q l t pos under one two =
    let cut : min l t * (u * u) ≤ l * (u * u) = mul-le-mul_right (u * u) (let less : min l t ≤ l = omega arith in less) in
    let units : l * u * u ≤ p * q * u = mul-le-mul_right u under in
    rw (pow-add a m n, pow-add u m n)
    (at_most-then (min l t) u (p * q) (u * u) (a ^ m * a ^ n) (u ^ m * u ^ n) (mul-pos pos pos) (record { cross = omega arith })
    (at_most-times p u (a ^ m) (u ^ m) q u (a ^ n) (u ^ n) one two))

product_above : (u b m n p q h : ℕ) → 0 < u → p * q ≤ h * u → IsAtMost (b ^ m) (u ^ m) p u → IsAtMost (b ^ n) (u ^ n) q u → IsAtMost (b ^ (m + n)) (u ^ (m + n)) h u
product_above u b m n p q h pos over one two =
    let units : p * q * u ≤ h * u * u = mul-le-mul_right u over in
    rw (pow-add b m n, pow-add u m n)
    (at_most-then (b ^ m * b ^ n) (u ^ m * u ^ n) (p * q) (u * u) h u (mul-pos pos pos)
    (at_most-times (b ^ m) (u ^ m) p u (b ^ n) (u ^ n) q u one two) (record { cross = omega arith }))

-- an upper end may be cut if the exact power is in reach
cut_above : (u t p r h : ℕ) → 15 * u ≤ t → p ≤ 15 * r → IsAtMost p r h u → IsAtMost p r (min h t) u
cut_above u t p r h room most law =
    ⊎_elim (λ (below : h ≤ t). let same : min h t ≡ h = omega arith in rw same law)
    (λ (above : t ≤ h).
    let same : min h t ≡ t = omega arith in
    let one : p * u ≤ 15 * r * u = mul-le-mul_right u most in
    let two : 15 * u * r ≤ t * r = mul-le-mul_right r room in
    rw same (record { cross = omega arith }))
    (ordered h t)

-- so powers of m and of n make one of m + n
product_of_powers : (u t a b m n l1 h1 l2 h2 l h : ℕ) → 1 ≤ m → 1 ≤ n → 0 < u → 15 * u ≤ t → b ^ (m + n) ≤ 15 * u ^ (m + n) → IsRounded u (l1 * l2) (h1 * h2) l h → IsPower u a b m l1 h1 → IsPower u a b n l2 h2 → IsPower u a b (m + n) (min l t) (min h t)
product_of_powers u t a b m n l1 h1 l2 h2 l h some more pos room most round one two =
    let floor : l * u ≤ l1 * l2 = round.floor_under in
    let ceiling : h1 * h2 ≤ h * u = round.ceiling_over in
    let lows : l1 * l2 ≤ h1 * h2 = mul-le-mul one.ordered two.ordered in
    let both : l * u ≤ h * u = omega arith in
    let order : l ≤ h = le_of_mul-le-mul_right both pos in
    let share : m * (b - a + 2) - 2 + (n * (b - a + 2) - 2) + 2 ≡ (m + n) * (b - a + 2) - 2 = shares m n (b - a) some more in
    record {
      below = product_below u a m n l1 l2 l t pos floor one.below two.below;
      above = cut_above u t (b ^ (m + n)) (u ^ (m + n)) h room most (product_above u b m n h1 h2 h pos ceiling one.above two.above);
      ordered = omega arith;
      small = λ under. small_cut u t ((m + n) * (b - a + 2) - 2) l h (omega arith) order
          (subst (λ (e : ℕ). IsSmall u e l h) share
          (small_product u (m * (b - a + 2) - 2) (n * (b - a + 2) - 2) l1 h1 l2 h2 l h pos two.ordered (one.small under) (two.small under) round));
      large = λ over. large_cut u t ((m + n) * (b - a + 2) - 2) l h (omega arith) order
          (subst (λ (e : ℕ). IsLarge u e l h) share
          (large_product u (m * (b - a + 2) - 2) (n * (b - a + 2) - 2) l1 h1 l2 h2 l h pos two.ordered (one.large over) (two.large over) round));
    }

-- a power is in reach if a greater one is
pub times-in_reach : (u x c m j k : ℕ) → 0 < u → c ≤ m → j ≤ k → c * x ^ k ≤ m * u ^ k → c * x ^ j ≤ m * u ^ j
times-in_reach u x c m j k pos some less most =
    ⊎_elim (λ below.
    let power : x ^ j ≤ u ^ j = pow-le-pow_left below j in
    mul-le-mul some power)
    (λ above.
    let sum : j + (k - j) ≡ k = omega arith in
    let whole : c * x ^ (j + (k - j)) ≤ m * u ^ (j + (k - j)) = subst (λ (n : ℕ). c * x ^ n ≤ m * u ^ n) (sym sum) most in
    let split : c * (x ^ j * x ^ (k - j)) ≤ m * (u ^ j * u ^ (k - j)) = rw (pow-add x j (k - j), pow-add u j (k - j)) at whole in
    let rest : u ^ (k - j) ≤ x ^ (k - j) = pow-le-pow_left above (k - j) in
    let grown : c * x ^ j * u ^ (k - j) ≤ c * x ^ j * x ^ (k - j) = mul-le-mul_left (c * x ^ j) rest in
    let all : c * x ^ j * u ^ (k - j) ≤ m * u ^ j * u ^ (k - j) = omega arith in
    le_of_mul-le-mul_right all (one-le-pow (k - j) u pos))
    (ordered x u)

pub in_reach : (u x m j k : ℕ) → 0 < u → 1 ≤ m → j ≤ k → x ^ k ≤ m * u ^ k → x ^ j ≤ m * u ^ j
in_reach u x m j k pos some less most =
    let once : 1 * x ^ k ≤ m * u ^ k = omega arith in
    let part : 1 * x ^ j ≤ m * u ^ j = times-in_reach u x 1 m j k pos some less once in
    omega arith

-- the first power is the base itself
first_large : (u a b : ℕ) → a ≤ b → u ≤ b → b * u ≤ a * u + (1 * (b - a + 2) - 2) * b
first_large u a b order over =
    let share : 1 * (b - a + 2) - 2 ≡ b - a = omega arith in
    let split : a + (b - a) ≡ b = omega arith in
    let whole : (a + (b - a)) * u ≡ b * u = ap (λ n. n * u) split in
    let grown : (b - a) * u ≤ (b - a) * b = mul-le-mul_left (b - a) over in
    rw share (omega arith)

first_power : (u a b : ℕ) → a ≤ b → IsPower u a b 1 a b
first_power u a b order = record {
  below = record { cross = rw (pow-one u, pow-one a) (omega arith) };
  above = record { cross = rw (pow-one u, pow-one b) (omega arith) };
  ordered = order;
  small = λ under. record { under = under; near = omega arith };
  large = λ over. record { over = over; near = first_large u a b order over };
}

same_ends : (u a b k l h p q : ℕ) → l ≡ p → h ≡ q → IsPower u a b k p q → IsPower u a b k l h
same_ends u a b k l h p q low high law = rw (low, high) law

-- the steps of squaring, with one in units of 2^-60 and ends of 64 bits
squared : (a b k l h : ℕ) → 1 ≤ k / 2 → b ^ k ≤ 15 * (2 ^ 60) ^ k → IsPower (2 ^ 60) a b (k / 2) l h → IsPower (2 ^ 60) a b (k / 2 + k / 2) (product_end 0 l l) (product_end (2 ^ 60 - 1) h h)
squared a b k l h some most half =
    product_of_powers (2 ^ 60) (2 ^ 64 - 1) a b (k / 2) (k / 2) l h l h ((l * l + 0) / 2 ^ 60) ((h * h + (2 ^ 60 - 1)) / 2 ^ 60) some some (lit< tt) (lit≤ tt)
    (in_reach (2 ^ 60) b 15 (k / 2 + k / 2) k (lit< tt) (lit≤ tt) (omega arith) most) (rounded (2 ^ 60) (l * l) (h * h) (lit< tt)) half half

once_more : (a b k l h : ℕ) → 1 ≤ k → a ≤ b → b ^ (k + 1) ≤ 15 * (2 ^ 60) ^ (k + 1) → IsPower (2 ^ 60) a b k l h → IsPower (2 ^ 60) a b (k + 1) (product_end 0 l a) (product_end (2 ^ 60 - 1) h b)
once_more a b k l h some order most law =
    product_of_powers (2 ^ 60) (2 ^ 64 - 1) a b k 1 l h a b ((l * a + 0) / 2 ^ 60) ((h * b + (2 ^ 60 - 1)) / 2 ^ 60) some (lit≤ tt) (lit< tt) (lit≤ tt) most
    (rounded (2 ^ 60) (l * a) (h * b) (lit< tt)) law (first_power (2 ^ 60) a b order)

from_half : (a b k l h : ℕ) → 2 ≤ k → a ≤ b → b ^ k ≤ 15 * (2 ^ 60) ^ k → IsPower (2 ^ 60) a b (k / 2) l h → IsPower (2 ^ 60) a b k (power_from_half (product_end 0) a k l) (power_from_half (product_end (2 ^ 60 - 1)) b k h)
from_half a b k l h more order most half =
    let low = product_end 0 in
    let high = product_end (2 ^ 60 - 1) in
    let square : IsPower (2 ^ 60) a b (k / 2 + k / 2) (product_end 0 l l) (product_end (2 ^ 60 - 1) h h) = squared a b k l h (omega arith) most half in
    ⊎_elim (λ even.
    let whole : k / 2 + k / 2 ≡ k = omega arith in
    same_ends (2 ^ 60) a b k (power_from_half low a k l) (power_from_half high b k h) (low l l) (high h h) (from_half-even low a k l even) (from_half-even high b k h even)
    (subst (λ (n : ℕ). IsPower (2 ^ 60) a b n (product_end 0 l l) (product_end (2 ^ 60 - 1) h h)) whole square))
    (λ odd.
    let whole : k / 2 + k / 2 + 1 ≡ k = omega arith in
    let reach : b ^ (k / 2 + k / 2 + 1) ≤ 15 * (2 ^ 60) ^ (k / 2 + k / 2 + 1) = subst (λ (n : ℕ). b ^ n ≤ 15 * (2 ^ 60) ^ n) (sym whole) most in
    same_ends (2 ^ 60) a b k (power_from_half low a k l) (power_from_half high b k h) (low (low l l) a) (high (high h h) b) (from_half-odd low a k l odd) (from_half-odd high b k h odd)
    (subst (λ (n : ℕ). IsPower (2 ^ 60) a b n (product_end 0 (product_end 0 l l) a) (product_end (2 ^ 60 - 1) (product_end (2 ^ 60 - 1) h h) b)) whole
    (once_more a b (k / 2 + k / 2) (product_end 0 l l) (product_end (2 ^ 60 - 1) h h) (omega arith) order reach square)))
    (even_or_odd k)

first_by : (a b f k : ℕ) → k ≡ 1 → a ≤ b → IsPower (2 ^ 60) a b k (power_by (product_end 0) a f k) (power_by (product_end (2 ^ 60 - 1)) b f k)
first_by a b f k one order =
    same_ends (2 ^ 60) a b k (power_by (product_end 0) a f k) (power_by (product_end (2 ^ 60 - 1)) b f k) a b
    (power_by-first (product_end 0) a f k (omega arith)) (power_by-first (product_end (2 ^ 60 - 1)) b f k (omega arith))
    (subst (λ (n : ℕ). IsPower (2 ^ 60) a b n a b) (sym one) (first_power (2 ^ 60) a b order))

power_by-is : (a b f k : ℕ) → 1 ≤ k → k < 2 ^ suc f → a ≤ b → b ^ k ≤ 15 * (2 ^ 60) ^ k → IsPower (2 ^ 60) a b k (power_by (product_end 0) a f k) (power_by (product_end (2 ^ 60 - 1)) b f k)
power_by-is a b zero k some few order most =
    let two : 2 ^ suc 0 ≡ 2 = refl in
    first_by a b 0 k (omega arith) order
power_by-is a b (suc f) k some few order most =
    let double : 2 ^ suc (suc f) ≡ 2 ^ suc f * 2 = pow-suc 2 (suc f) in
    ⊎_elim (λ one. first_by a b (suc f) k (omega arith) order)
    (λ more.
    let low = power_by (product_end 0) a f (k / 2) in
    let high = power_by (product_end (2 ^ 60 - 1)) b f (k / 2) in
    same_ends (2 ^ 60) a b k (power_by (product_end 0) a (suc f) k) (power_by (product_end (2 ^ 60 - 1)) b (suc f) k)
    (power_from_half (product_end 0) a k low) (power_from_half (product_end (2 ^ 60 - 1)) b k high)
    (power_by-more (product_end 0) a f k more) (power_by-more (product_end (2 ^ 60 - 1)) b f k more)
    (from_half a b k low high more order most
    (power_by-is a b f (k / 2) (omega arith) (omega arith) order (in_reach (2 ^ 60) b 15 (k / 2) k (lit< tt) (lit≤ tt) (omega arith) most))))
    (one_or_more k)

-- the law of a power's ends
pub power_is : (a b k : ℕ) → 1 ≤ k → k < 256 → a ≤ b → b ^ k ≤ 15 * (2 ^ 60) ^ k → IsPower (2 ^ 60) a b k (power_end 0 a k) (power_end (2 ^ 60 - 1) b k)
power_is a b k some few order most =
    same_ends (2 ^ 60) a b k (power_end 0 a k) (power_end (2 ^ 60 - 1) b k) (power_by (product_end 0) a 7 k) (power_by (product_end (2 ^ 60 - 1)) b 7 k)
    (power_end-some 0 a k some) (power_end-some (2 ^ 60 - 1) b k some) (power_by-is a b 7 k some few order most)

-- the width of a power, if its upper end is at most m
pub power_narrow : (u a b k lo hi m : ℕ) → 0 < u → 1 ≤ m → hi ≤ m * u → IsPower u a b k lo hi → hi - lo ≤ k * (b - a + 2) * m
power_narrow u a b k lo hi m pos some cover law =
    ⊎_elim (λ under.
    let near : hi ≤ lo + (k * (b - a + 2) - 2) = (law.small under).near in
    let more : k * (b - a + 2) * 1 ≤ k * (b - a + 2) * m = mul-le-mul_left (k * (b - a + 2)) some in
    omega arith)
    (λ over.
    let near : hi * u ≤ lo * u + (k * (b - a + 2) - 2) * hi = (law.large over).near in
    let less : k * (b - a + 2) - 2 ≤ k * (b - a + 2) = omega arith in
    let drift : (k * (b - a + 2) - 2) * hi ≤ k * (b - a + 2) * (m * u) = mul-le-mul less cover in
    let all : hi * u ≤ (lo + k * (b - a + 2) * m) * u = omega arith in
    let done : hi ≤ lo + k * (b - a + 2) * m = le_of_mul-le-mul_right all pos in
    omega arith)
    (ordered b u)

whole_covers : (hi u : ℕ) → 0 < u → hi ≤ max 1 ((hi + (u - 1)) / u) * u
whole_covers hi u pos =
    let ceiling : hi + (u - 1) < (hi + (u - 1)) / u * u + u = lt-div-mul-add pos in
    let most : (hi + (u - 1)) / u * u ≤ max 1 ((hi + (u - 1)) / u) * u
    = mul-le-mul_right u (let less : (hi + (u - 1)) / u ≤ max 1 ((hi + (u - 1)) / u) = omega arith in less) in
    omega arith

-- what a power's ends hold and how near they are, for every exponent up to 180
pub record IsPowerSpan (a b k lo hi : ℕ) : Type 0 where
  pub below : IsAtMost lo (2 ^ 60) (a ^ k) ((2 ^ 60) ^ k)
  pub above : IsAtMost (b ^ k) ((2 ^ 60) ^ k) hi (2 ^ 60)
  pub ordered : lo ≤ hi
  pub narrow : hi - lo ≤ k * (b - a + 2) * whole_above hi

-- a power with exponent 0 is one
no_factor : (u x : ℕ) → IsAtMost u u (x ^ 0) (u ^ 0)
no_factor u x = record { cross = rw (pow-zero x, pow-zero u) (omega arith) }

factorless : (u x : ℕ) → IsAtMost (x ^ 0) (u ^ 0) u u
factorless u x = record { cross = rw (pow-zero x, pow-zero u) (omega arith) }

no_power : (a b : ℕ) → IsPowerSpan a b 0 (2 ^ 60) (2 ^ 60)
no_power a b = record {
  below = no_factor (2 ^ 60) a;
  above = factorless (2 ^ 60) b;
  ordered = omega arith;
  narrow = omega arith;
}

none_or_some : (k : ℕ) → (k ≡ 0) ⊎ (1 ≤ k)
none_or_some k = grind arith

pub power_span : (a b k : ℕ) → k ≤ 180 → a ≤ b → b ^ k ≤ 15 * (2 ^ 60) ^ k → IsPowerSpan a b k (power_low a k) (power_high b k)
power_span a b k few order most =
    ⊎_elim (λ none. rw none (rw (power_end-none 0 a, power_end-none (2 ^ 60 - 1) b) (no_power a b)))
    (λ some.
    let law : IsPower (2 ^ 60) a b k (power_low a k) (power_high b k) = power_is a b k some (omega arith) order most in
    record {
      below = law.below;
      above = law.above;
      ordered = law.ordered;
      narrow = power_narrow (2 ^ 60) a b k (power_low a k) (power_high b k) (whole_above (power_high b k)) (lit< tt) (omega arith) (whole_covers (power_high b k) (2 ^ 60) (lit< tt)) law;
    })
    (none_or_some k)

pub power_span_at : (a b k lo hi : ℕ) → k ≤ 180 → a ≤ b → b ^ k ≤ 15 * (2 ^ 60) ^ k → lo ≡ power_low a k → hi ≡ power_high b k → IsPowerSpan a b k lo hi
power_span_at a b k lo hi few order most low high = rw (low, high) (power_span a b k few order most)
