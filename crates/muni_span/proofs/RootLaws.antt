-- The ends of a root enclose the exact roots, and are near each other.
use Rattle.std.proofs.Common.{◌≡◌, ℕ, suc, zero, ◌+◌, ◌-◌, ◌*◌, ◌^◌, ◌<◌, ◌≤◌, ◌≢◌, sym, ap, subst, ⊎_elim, arith, lit≤, lit<}
use Rattle.std.proofs.Math.Nat.{mul-le-mul_left, mul-le-mul_right, le_of_mul-le-mul_right, mul-pos, one-le-pow, pow-le-pow_left, pow-suc, pow-zero}
use Rattle.std.proofs.lemmas.Bool.{cases_lt}
use Rattle.muni_rule.proofs.PowerLemmas.{power-order}
use Rattle.muni_span.specs.Fractions.{IsAtMost}
use Rattle.muni_span.specs.Powers.{power_by, power_end, power_low, power_high}
use Rattle.muni_span.specs.Roots.{root_end, root_low, root_high}
use Rattle.muni_span.specs.Widths.{whole_above}
use Rattle.muni_span.proofs.Fractions.{at_most-then}
use Rattle.muni_span.proofs.PowerLaws.{IsPowerSpan, power_span}
use Rattle.muni_span.proofs.PowerGrowth.{power_end-grows}
use Rattle.muni_span.proofs.RootEnds.{IsEnd, root_end-is}
use Rattle.muni_span.proofs.RootReach.{reach_up, reach_down}

-- the k-th power of x is between two ends that are at most e apart
pub record IsClose (u k e x lo hi : ℕ) : Type 0 where
  pub below : IsAtMost lo u (x ^ k) (u ^ k)
  pub above : IsAtMost (x ^ k) (u ^ k) hi u
  pub near : hi ≤ lo + e

-- powers in the widest bracket stay below two
greatest_power : power_end (2 ^ 60 - 1) (2 ^ 60 + 2 ^ 50) 180 ≤ 2 * 2 ^ 60
unfolding power_end power_by
greatest_power = lit≤ tt

in_reach_of : (u k g x : ℕ) → x ≤ g → g ^ k ≤ 15 * u ^ k → x ^ k ≤ 15 * u ^ k
in_reach_of u k g x less most = let power : x ^ k ≤ g ^ k = pow-le-pow_left less k in omega arith

-- the 180th power of a number near one
close : (x : ℕ) → x ≤ 2 ^ 60 + 2 ^ 50 → IsClose (2 ^ 60) 180 720 x (power_low x 180) (power_high x 180)
close x less =
    let law : IsPowerSpan x x 180 (power_low x 180) (power_high x 180)
    = power_span x x 180 (lit≤ tt) (omega arith) (in_reach_of (2 ^ 60) 180 (2 ^ 60 + 2 ^ 50) x less (lit≤ tt)) in
    let grown : power_end (2 ^ 60 - 1) x 180 ≤ power_end (2 ^ 60 - 1) (2 ^ 60 + 2 ^ 50) 180
    = power_end-grows (2 ^ 60 - 1) x (2 ^ 60 + 2 ^ 50) 180 (lit≤ tt) less in
    let top : power_end (2 ^ 60 - 1) (2 ^ 60 + 2 ^ 50) 180 ≤ 2 * 2 ^ 60 = greatest_power in
    let two : whole_above (power_high x 180) ≤ 2 = omega arith in
    let none : x - x ≡ 0 = omega arith in
    let narrow : power_high x 180 - power_low x 180 ≤ 180 * (x - x + 2) * whole_above (power_high x 180) = law.narrow in
    let wide : 180 * (x - x + 2) * whole_above (power_high x 180) ≤ 180 * (x - x + 2) * 2 = mul-le-mul_left (180 * (x - x + 2)) two in
    record { below = law.below; above = law.above; near = omega arith }

-- a step of d raises a power by at least this
bernoulli_step : (x d k p q r : ℕ) → q ≡ p * x → q + suc k * d * p ≤ r → x ^ suc (suc k) ≡ q * x → (x + d) ^ suc (suc k) ≡ r * (x + d) → x ^ suc (suc k) + suc (suc k) * d * q ≤ (x + d) ^ suc (suc k)
bernoulli_step x d k p q r one law left right =
    let grown : (q + suc k * d * p) * (x + d) ≤ r * (x + d) = mul-le-mul_right (x + d) law in
    let times : suc k * d * q ≡ suc k * d * (p * x) = ap (λ n. suc k * d * n) one in
    rw (left, right) (omega arith)

bernoulli : (x d k : ℕ) → x ^ suc k + suc k * d * x ^ k ≤ (x + d) ^ suc k
bernoulli x d zero = rw (pow-suc x zero, pow-suc (x + d) zero, pow-zero x, pow-zero (x + d)) (omega arith)
bernoulli x d (suc k) =
    bernoulli_step x d k (x ^ k) (x ^ suc k) ((x + d) ^ suc k) (pow-suc x k) (bernoulli x d k) (pow-suc x (suc k)) (pow-suc (x + d) (suc k))

-- numbers with near powers are near: x and x + d, whose powers are not e beyond v below and w above
gap : (u k x d e v w : ℕ) → 0 < u → u ^ k ≤ 4 * x ^ k → v * u ^ suc k ≤ x ^ suc k * u + e * u ^ suc k → (x + d) ^ suc k * u ≤ w * u ^ suc k + e * u ^ suc k → w ≤ v + 1 → suc k * d ≤ 4 * (2 * e + 1)
gap u k x d e v w pos size first second narrow =
    let span : w * u ^ suc k ≤ (v + 1) * u ^ suc k = mul-le-mul_right (u ^ suc k) narrow in
    let grown : (x ^ suc k + suc k * d * x ^ k) * u ≤ (x + d) ^ suc k * u = mul-le-mul_right u (bernoulli x d k) in
    let rise : suc k * d * x ^ k * u ≤ (2 * e + 1) * u ^ suc k = omega arith in
    let sized : suc k * d * u ^ k ≤ suc k * d * (4 * x ^ k) = mul-le-mul_left (suc k * d) size in
    let units : suc k * d * u ^ k * u ≤ suc k * d * (4 * x ^ k) * u = mul-le-mul_right u sized in
    let top : u ^ suc k ≡ u ^ k * u = pow-suc u k in
    let limit : (2 * e + 1) * u ^ suc k ≡ (2 * e + 1) * (u ^ k * u) = ap (λ n. (2 * e + 1) * n) top in
    let all : suc k * d * (u ^ k * u) ≤ 4 * (2 * e + 1) * (u ^ k * u) = omega arith in
    le_of_mul-le-mul_right all (mul-pos (one-le-pow k u pos) pos)

-- what a power next above the bound, and one next below it, say of the numbers
near_above : (u k e v x p q : ℕ) → IsClose u k e x p q → v ≤ q → v * u ^ k ≤ x ^ k * u + e * u ^ k
near_above u k e v x p q close over =
    let near : q ≤ p + e = close.near in
    let wide : v * u ^ k ≤ (p + e) * u ^ k = mul-le-mul_right (u ^ k) (let less : v ≤ p + e = omega arith in less) in
    let below : p * u ^ k ≤ x ^ k * u = close.below.cross in
    omega arith

near_below : (u k e w x p q : ℕ) → IsClose u k e x p q → p ≤ w → x ^ k * u ≤ w * u ^ k + e * u ^ k
near_below u k e w x p q close under =
    let near : q ≤ p + e = close.near in
    let wide : q * u ^ k ≤ (w + e) * u ^ k = mul-le-mul_right (u ^ k) (let less : q ≤ w + e = omega arith in less) in
    let above : x ^ k * u ≤ q * u ^ k = close.above.cross in
    omega arith

few_steps : (d : ℕ) → 180 * d ≤ 4 * (2 * 720 + 1) → d ≤ 32
few_steps d few = omega arith

sized : (u k least x : ℕ) → u ^ k ≤ 4 * least ^ k → least ≤ x → u ^ k ≤ 4 * x ^ k
sized u k least x size less = let power : least ^ k ≤ x ^ k = pow-le-pow_left less k in omega arith

-- the number after a root's lower end and the one before its upper end are 32 apart at most
ends_near : (v w q s : ℕ) → 2 ^ 60 - 2 ^ 52 ≤ q → q + 1 ≤ 2 ^ 60 + 2 ^ 50 → s ≤ 2 ^ 60 + 2 ^ 50 → v ≤ power_high (q + 1) 180 → power_low s 180 ≤ w → w ≤ v + 1 → s ≤ q + 33
ends_near v w q s least within within' over under narrow =
    ⊎_elim (λ far.
    let split : q + 1 + (s - (q + 1)) ≡ s = omega arith in
    let first = near_above (2 ^ 60) 180 720 v (q + 1) (power_low (q + 1) 180) (power_high (q + 1) 180) (close (q + 1) within) over in
    let second = near_below (2 ^ 60) 180 720 w s (power_low s 180) (power_high s 180) (close s within') under in
    let steps : 180 * (s - (q + 1)) ≤ 4 * (2 * 720 + 1)
    = gap (2 ^ 60) 179 (q + 1) (s - (q + 1)) 720 v w (lit< tt) (sized (2 ^ 60) 179 (2 ^ 60 - 2 ^ 52) (q + 1) (lit≤ tt) (omega arith)) first
    (subst (λ (x : ℕ). x ^ 180 * 2 ^ 60 ≤ w * (2 ^ 60) ^ 180 + 720 * (2 ^ 60) ^ 180) (sym split) second) narrow in
    let few : s - (q + 1) ≤ 32 = few_steps (s - (q + 1)) steps in
    omega arith)
    (λ near. omega arith)
    (cases_lt (q + 1) s)

ends_ordered : (u k v w q r : ℕ) → 0 < u → v ≤ w → IsAtMost (q ^ suc k) (u ^ suc k) v u → IsAtMost w u (r ^ suc k) (u ^ suc k) → q ≤ r
ends_ordered u k v w q r pos order below above =
    let between : IsAtMost v u w u = record { cross = mul-le-mul_right u order } in
    let low = at_most-then (q ^ suc k) (u ^ suc k) v u w u pos below between in
    let whole : IsAtMost (q ^ suc k) (u ^ suc k) (r ^ suc k) (u ^ suc k) = at_most-then (q ^ suc k) (u ^ suc k) w u (r ^ suc k) (u ^ suc k) pos low above in
    power-order q r (suc k) (let some : suc k ≢ 0 = omega arith in some) (le_of_mul-le-mul_right whole.cross (one-le-pow (suc k) u pos))

-- a power that is at most v certifies that the number is at most v's root
certified_below : (u k v x p : ℕ) → 0 < u → p ≤ v → IsAtMost (x ^ k) (u ^ k) p u → IsAtMost (x ^ k) (u ^ k) v u
certified_below u k v x p pos under law = at_most-then (x ^ k) (u ^ k) p u v u pos law (record { cross = mul-le-mul_right u under })

certified_above : (u k w x p : ℕ) → 0 < u → w ≤ p → IsAtMost p u (x ^ k) (u ^ k) → IsAtMost w u (x ^ k) (u ^ k)
certified_above u k w x p pos over law = at_most-then w u p u (x ^ k) (u ^ k) pos (record { cross = mul-le-mul_right u over }) law

-- the law of a root's ends
pub record IsRootSpan (v w q r : ℕ) : Type 0 where
  pub below : IsAtMost (q ^ 180) ((2 ^ 60) ^ 180) v (2 ^ 60)
  pub above : IsAtMost w (2 ^ 60) (r ^ 180) ((2 ^ 60) ^ 180)
  pub ordered : q ≤ r
  pub narrow : r ≤ q + 64

root_span_at : (v w q s : ℕ) → v ≤ w → w ≤ v + 1 → 1 ≤ w → IsEnd (2 ^ 60 - 1) v (2 ^ 60 - 2 ^ 52) q → IsEnd 0 (w - 1) (2 ^ 60 - 2 ^ 52) s → IsRootSpan v w q (s + 1)
root_span_at v w q s order narrow some low high =
    let within : q + 1 ≤ 2 ^ 60 + 2 ^ 50 = low.bracket.within in
    let within' : s + 1 ≤ 2 ^ 60 + 2 ^ 50 = high.bracket.within in
    let over : v < power_high (q + 1) 180 = low.bracket.over in
    let under : power_low s 180 ≤ w - 1 = high.bracket.under in
    let past : w - 1 < power_low (s + 1) 180 = high.bracket.over in
    let below = certified_below (2 ^ 60) 180 v q (power_high q 180) (lit< tt) low.bracket.under (close q (omega arith)).above in
    let above = certified_above (2 ^ 60) 180 w (s + 1) (power_low (s + 1) 180) (lit< tt) (omega arith) (close (s + 1) within').below in
    let near : s ≤ q + 33 = ends_near v w q s low.above within (omega arith) (omega arith) (omega arith) narrow in
    record {
      below = below;
      above = above;
      ordered = ends_ordered (2 ^ 60) 179 v w q (s + 1) (lit< tt) order below above;
      narrow = omega arith;
    }

pub root_span : (v w : ℕ) → 6 * 2 ^ 60 ≤ 10 * v → 100 * w ≤ 103 * 2 ^ 60 → v ≤ w → w ≤ v + 1 → IsRootSpan v w (root_low v) (root_high w)
root_span v w least greatest order narrow =
    root_span_at v w (root_end (2 ^ 60 - 1) v) (root_end 0 (w - 1)) order narrow (omega arith)
    (root_end-is (2 ^ 60 - 1) v (2 ^ 60 - 2 ^ 52) (2 ^ 60 + 2 ^ 50) (reach_up v (omega arith) (omega arith)))
    (root_end-is 0 (w - 1) (2 ^ 60 - 2 ^ 52) (2 ^ 60 + 2 ^ 50) (reach_down (w - 1) (omega arith) (omega arith)))

pub root_span_of : (v w lo hi : ℕ) → 6 * 2 ^ 60 ≤ 10 * v → 100 * w ≤ 103 * 2 ^ 60 → v ≤ w → w ≤ v + 1 → lo ≡ root_low v → hi ≡ root_high w → IsRootSpan v w lo hi
root_span_of v w lo hi least greatest order narrow low high = rw (low, high) (root_span v w least greatest order narrow)
