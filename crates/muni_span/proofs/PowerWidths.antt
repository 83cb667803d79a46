-- How far the ends of a power drift apart: `u` is one, and ends are cut at `t`.
use Rattle.std.proofs.Common.{◌≡◌, ℕ, suc, ◌+◌, ◌-◌, ◌*◌, ◌<◌, ◌≤◌, ◌⊎◌, min, ap, ⊎_elim, arith}
use Rattle.std.proofs.Math.Nat.{mul-le-mul, mul-le-mul_left, mul-le-mul_right, le_of_mul-le-mul_right, lt_of_mul-lt-mul_right}
use Rattle.muni_span.proofs.Quotients.{IsRounded}

-- ends of at most one: they differ by at most e
pub record IsSmall (u e lo hi : ℕ) : Type 0 where
  pub under : hi ≤ u
  pub near : hi ≤ lo + e

-- ends whose upper one is at least one: they differ by at most e in proportion to it
pub record IsLarge (u e lo hi : ℕ) : Type 0 where
  pub over : u ≤ hi
  pub near : hi * u ≤ lo * u + e * hi

pub ordered : (a b : ℕ) → (a ≤ b) ⊎ (b ≤ a)
ordered a b = grind arith

-- a product's ends differ by what its factors' ends do and by two roundings
pub small_product : (u c e a b p q l h : ℕ) → 0 < u → p ≤ q → IsSmall u c a b → IsSmall u e p q → IsRounded u (a * p) (b * q) l h → IsSmall u (c + e + 2) l h
small_product u c e a b p q l h pos order one two round =
    let by_second : b * q ≤ b * (p + e) = mul-le-mul_left b two.near in
    let by_first : b * p ≤ (a + c) * p = mul-le-mul_right p one.near in
    let second_part : b * e ≤ u * e = mul-le-mul_right e one.under in
    let under : p ≤ u = (let top : q ≤ u = two.under in omega arith) in
    let first_part : c * p ≤ c * u = mul-le-mul_left c under in
    let floor : a * p ≤ l * u + u = round.floor_near in
    let ceiling : h * u < b * q + u = round.ceiling_near in
    let all : h * u ≤ (l + (c + e + 2)) * u = omega arith in
    let square : b * q ≤ u * u = mul-le-mul one.under two.under in
    let capped : h * u < suc u * u = omega arith in
    let below : h < suc u = lt_of_mul-lt-mul_right u capped in
    record { under = omega arith; near = le_of_mul-le-mul_right all pos }

pub large_product : (u c e a b p q l h : ℕ) → 0 < u → p ≤ q → IsLarge u c a b → IsLarge u e p q → IsRounded u (a * p) (b * q) l h → IsLarge u (c + e + 2) l h
large_product u c e a b p q l h pos order one two round =
    let by_second : b * (q * u) ≤ b * (p * u + e * q) = mul-le-mul_left b two.near in
    let by_first : p * (b * u) ≤ p * (a * u + c * b) = mul-le-mul_left p one.near in
    let first_part : c * b * p ≤ c * b * q = mul-le-mul_left (c * b) order in
    let ones : u * u ≤ b * q = mul-le-mul one.over two.over in
    let floor : a * p * u ≤ (l * u + u) * u = mul-le-mul_right u round.floor_near in
    let near : h * u ≤ b * q + u = (let strict : h * u < b * q + u = round.ceiling_near in omega arith) in
    let ceiling : h * u * u ≤ (b * q + u) * u = mul-le-mul_right u near in
    let cover : (c + e + 2) * (b * q) ≤ (c + e + 2) * (h * u) = mul-le-mul_left (c + e + 2) round.ceiling_over in
    let all : h * u * u ≤ (l * u + (c + e + 2) * h) * u = omega arith in
    let covered : b * q ≤ h * u = round.ceiling_over in
    let reached : u * u ≤ h * u = omega arith in
    record { over = le_of_mul-le-mul_right reached pos; near = le_of_mul-le-mul_right all pos }

-- ends that are cut keep their law
pub small_cut : (u t e l h : ℕ) → u ≤ t → l ≤ h → IsSmall u e l h → IsSmall u e (min l t) (min h t)
small_cut u t e l h room order law =
    let under : h ≤ u = law.under in
    let near : h ≤ l + e = law.near in
    record { under = omega arith; near = omega arith }

-- a lower upper end keeps its proportion
lowered : (u e l h c : ℕ) → c ≤ h → h * u ≤ l * u + e * h → c * u ≤ l * u + e * c
lowered u e l h c less law =
    ⊎_elim (λ below.
    let split : e + (u - e) ≡ u = omega arith in
    let whole : h * (e + (u - e)) ≡ h * u = ap (λ n. h * n) split in
    let part : c * (e + (u - e)) ≡ c * u = ap (λ n. c * n) split in
    let rest : c * (u - e) ≤ h * (u - e) = mul-le-mul_right (u - e) less in
    omega arith)
    (λ above. let most : c * u ≤ c * e = mul-le-mul_left c above in omega arith)
    (ordered e u)

pub large_cut : (u t e l h : ℕ) → u ≤ t → l ≤ h → IsLarge u e l h → IsLarge u e (min l t) (min h t)
large_cut u t e l h room order law =
    let over : u ≤ h = law.over in record {
      over = omega arith;
      near = ⊎_elim (λ (below : l ≤ t).
          let same : min l t ≡ l = omega arith in
          rw same (lowered u e l h (min h t) (omega arith) law.near))
          (λ (above : t ≤ l).
          let low : min l t ≡ t = omega arith in
          let high : min h t ≡ t = omega arith in
          rw (low, high) (omega arith))
          (ordered l t);
    }

-- the widths of two powers and two roundings make up the width of their product
pub shares : (m n w : ℕ) → 1 ≤ m → 1 ≤ n → m * (w + 2) - 2 + (n * (w + 2) - 2) + 2 ≡ (m + n) * (w + 2) - 2
shares m n w some more =
    let one : 1 * (w + 2) ≤ m * (w + 2) = mul-le-mul_right (w + 2) some in
    let two : 1 * (w + 2) ≤ n * (w + 2) = mul-le-mul_right (w + 2) more in
    omega arith
