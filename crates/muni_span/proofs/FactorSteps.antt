-- The last step: a sum times the factor of a broken period, which is a power of a root.
use Rattle.std.proofs.Common.{ℕ, suc, ◌+◌, ◌-◌, ◌*◌, ◌^◌, ◌<◌, ◌≤◌, ◌≢◌, arith, lit≤, lit<}
use Rattle.std.proofs.Math.Nat.{mul-le-mul, mul-le-mul_left, mul-le-mul_right, le_of_mul-le-mul_right, lt_of_mul-lt-mul_right, pow-le-pow_left, one-le-pow, mul-pos}
use Rattle.std.proofs.lemmas.Nat.{mul-pow}
use Rattle.muni_rule.proofs.PowerLemmas.{not-zero, pow-turned, pow-split, power-order}
use Rattle.muni_span.specs.Powers.{power_low, power_high}
use Rattle.muni_span.specs.Roots.{root_low, root_high}
use Rattle.muni_span.specs.Widths.{whole_above}
use Rattle.muni_span.proofs.PowerLaws.{times-in_reach, in_reach, IsPowerSpan, power_span}
use Rattle.muni_span.proofs.RootLaws.{IsRootSpan, root_span}
use Rattle.muni_span.proofs.SumSteps.{product-width}

factor_joined-below : (uk ue uek ve he qek re fk : ℕ) → 0 < uek * ue → fk * uek ≤ qek * uk → qek * ue ≤ re * uek → re * ve ≤ he * ue → fk * ve ≤ he * uk
factor_joined-below uk ue uek ve he qek re fk pos power root ratio =
    let one : fk * uek * (ue * ve) ≤ qek * uk * (ue * ve) = mul-le-mul_right (ue * ve) power in
    let two : qek * ue * (uk * ve) ≤ re * uek * (uk * ve) = mul-le-mul_right (uk * ve) root in
    let three : re * ve * (uek * uk) ≤ he * ue * (uek * uk) = mul-le-mul_right (uek * uk) ratio in
    let all : fk * ve * (uek * ue) ≤ he * uk * (uek * ue) = omega arith in
    le_of_mul-le-mul_right all pos

factor_joined-above : (uk ue uek ve he qek re fk : ℕ) → 0 < uek * ue → qek * uk ≤ fk * uek → re * uek ≤ qek * ue → he * ue ≤ re * ve → he * uk ≤ fk * ve
factor_joined-above uk ue uek ve he qek re fk pos power root ratio =
    let one : qek * uk * (ue * ve) ≤ fk * uek * (ue * ve) = mul-le-mul_right (ue * ve) power in
    let two : re * uek * (uk * ve) ≤ qek * ue * (uk * ve) = mul-le-mul_right (uk * ve) root in
    let three : he * ue * (uek * uk) ≤ re * ve * (uek * uk) = mul-le-mul_right (uek * uk) ratio in
    let all : he * uk * (uek * ue) ≤ fk * ve * (uek * ue) = omega arith in
    le_of_mul-le-mul_right all pos

powers-some : (u k e : ℕ) → 0 < u → 0 < (u ^ e) ^ k * u ^ e
powers-some u k e pos = mul-pos (one-le-pow k (u ^ e) (one-le-pow e u pos)) (one-le-pow e u pos)

-- q is the k-th root of r, which means h / v, and f the e-th power of q: f is an end of the e-th
-- power of that root, and so its k-th power one of the e-th power of h / v
factor-below : (u v h k e q r f : ℕ) → 0 < u → q ^ k * u ≤ r * u ^ k → r * v ≤ h * u → f * u ^ e ≤ q ^ e * u → f ^ k * v ^ e ≤ h ^ e * u ^ k
factor-below u v h k e q r f pos root ratio power =
    let raised : (f * u ^ e) ^ k ≤ (q ^ e * u) ^ k = pow-le-pow_left power k in
    let power' : f ^ k * (u ^ e) ^ k ≤ (q ^ e) ^ k * u ^ k = rw (mul-pow f (u ^ e) k, mul-pow (q ^ e) u k) at raised in
    let rooted : (q ^ k * u) ^ e ≤ (r * u ^ k) ^ e = pow-le-pow_left root e in
    let root' : (q ^ k) ^ e * u ^ e ≤ r ^ e * (u ^ k) ^ e = rw (mul-pow (q ^ k) u e, mul-pow r (u ^ k) e) at rooted in
    let divided : (r * v) ^ e ≤ (h * u) ^ e = pow-le-pow_left ratio e in
    let ratio' : r ^ e * v ^ e ≤ h ^ e * u ^ e = rw (mul-pow r v e, mul-pow h u e) at divided in
    factor_joined-below (u ^ k) (u ^ e) ((u ^ e) ^ k) (v ^ e) (h ^ e) ((q ^ e) ^ k) (r ^ e) (f ^ k) (powers-some u k e pos) power'
    (rw (pow-turned q k e, pow-turned u k e) at root') ratio'

factor-above : (u v h k e q r f : ℕ) → 0 < u → r * u ^ k ≤ q ^ k * u → h * u ≤ r * v → q ^ e * u ≤ f * u ^ e → h ^ e * u ^ k ≤ f ^ k * v ^ e
factor-above u v h k e q r f pos root ratio power =
    let raised : (q ^ e * u) ^ k ≤ (f * u ^ e) ^ k = pow-le-pow_left power k in
    let power' : (q ^ e) ^ k * u ^ k ≤ f ^ k * (u ^ e) ^ k = rw (mul-pow f (u ^ e) k, mul-pow (q ^ e) u k) at raised in
    let rooted : (r * u ^ k) ^ e ≤ (q ^ k * u) ^ e = pow-le-pow_left root e in
    let root' : r ^ e * (u ^ k) ^ e ≤ (q ^ k) ^ e * u ^ e = rw (mul-pow (q ^ k) u e, mul-pow r (u ^ k) e) at rooted in
    let divided : (h * u) ^ e ≤ (r * v) ^ e = pow-le-pow_left ratio e in
    let ratio' : h ^ e * u ^ e ≤ r ^ e * v ^ e = rw (mul-pow r v e, mul-pow h u e) at divided in
    factor_joined-above (u ^ k) (u ^ e) ((u ^ e) ^ k) (v ^ e) (h ^ e) ((q ^ e) ^ k) (r ^ e) (f ^ k) (powers-some u k e pos) power'
    (rw (pow-turned q k e, pow-turned u k e) at root') ratio'

last_joined-below : (uk pk sk fk vmk ve ck tk he : ℕ) → 0 < uk → pk * uk ≤ sk * fk → sk * vmk ≤ ck * tk → fk * ve ≤ he * uk → pk * (vmk * ve) ≤ ck * (tk * he)
last_joined-below uk pk sk fk vmk ve ck tk he pos product sum factor =
    let one : pk * uk * (vmk * ve) ≤ sk * fk * (vmk * ve) = mul-le-mul_right (vmk * ve) product in
    let two : sk * vmk * (fk * ve) ≤ ck * tk * (he * uk) = mul-le-mul sum factor in
    let all : pk * (vmk * ve) * uk ≤ ck * (tk * he) * uk = omega arith in
    le_of_mul-le-mul_right all pos

last_joined-above : (uk pk sk fk vmk ve ck tk he : ℕ) → 0 < uk → sk * fk ≤ pk * uk → ck * tk ≤ sk * vmk → he * uk ≤ fk * ve → ck * (tk * he) ≤ pk * (vmk * ve)
last_joined-above uk pk sk fk vmk ve ck tk he pos product sum factor =
    let one : sk * fk * (vmk * ve) ≤ pk * uk * (vmk * ve) = mul-le-mul_right (vmk * ve) product in
    let two : ck * tk * (he * uk) ≤ sk * vmk * (fk * ve) = mul-le-mul sum factor in
    let all : ck * (tk * he) * uk ≤ pk * (vmk * ve) * uk = omega arith in
    le_of_mul-le-mul_right all pos

-- the product p of an end s of the sum t / v^m and an end f of the factor
last-below : (u v c h k e m s f p t : ℕ) → 0 < u → p * u ≤ s * f → s * v ^ m ≤ c * t → f ^ k * v ^ e ≤ h ^ e * u ^ k → p ^ k * v ^ (m * k + e) ≤ c ^ k * (t ^ k * h ^ e)
last-below u v c h k e m s f p t pos round sum factor =
    let raised : (p * u) ^ k ≤ (s * f) ^ k = pow-le-pow_left round k in
    let product : p ^ k * u ^ k ≤ s ^ k * f ^ k = rw (mul-pow p u k, mul-pow s f k) at raised in
    let summed : (s * v ^ m) ^ k ≤ (c * t) ^ k = pow-le-pow_left sum k in
    let sum' : s ^ k * (v ^ m) ^ k ≤ c ^ k * t ^ k = rw (mul-pow s (v ^ m) k, mul-pow c t k) at summed in
    rw (pow-split v m k e) (last_joined-below (u ^ k) (p ^ k) (s ^ k) (f ^ k) ((v ^ m) ^ k) (v ^ e) (c ^ k) (t ^ k) (h ^ e) (one-le-pow k u pos) product sum' factor)

last-above : (u v c h k e m s f p t : ℕ) → 0 < u → s * f ≤ p * u → c * t ≤ s * v ^ m → h ^ e * u ^ k ≤ f ^ k * v ^ e → c ^ k * (t ^ k * h ^ e) ≤ p ^ k * v ^ (m * k + e)
last-above u v c h k e m s f p t pos round sum factor =
    let raised : (s * f) ^ k ≤ (p * u) ^ k = pow-le-pow_left round k in
    let product : s ^ k * f ^ k ≤ p ^ k * u ^ k = rw (mul-pow s f k, mul-pow p u k) at raised in
    let summed : (c * t) ^ k ≤ (s * v ^ m) ^ k = pow-le-pow_left sum k in
    let sum' : c ^ k * t ^ k ≤ s ^ k * (v ^ m) ^ k = rw (mul-pow c t k, mul-pow s (v ^ m) k) at summed in
    rw (pow-split v m k e) (last_joined-above (u ^ k) (p ^ k) (s ^ k) (f ^ k) ((v ^ m) ^ k) (v ^ e) (c ^ k) (t ^ k) (h ^ e) (one-le-pow k u pos) product sum' factor)

-- a root of a number up to 1.0257 is at most 2^60 + 2^49
root-small : (u k g q v : ℕ) → 0 < u → k ≢ 0 → q ^ k * u ≤ v * u ^ k → 10000 * v ≤ 10257 * u → 10257 * u ^ k ≤ 10000 * g ^ k → q ≤ g
root-small u k g q v pos some below small big =
    let one : 10000 * v * u ^ k ≤ 10257 * u * u ^ k = mul-le-mul_right (u ^ k) small in
    let two : 10257 * u ^ k * u ≤ 10000 * g ^ k * u = mul-le-mul_right u big in
    let all : 10000 * q ^ k * u ≤ 10000 * g ^ k * u = omega arith in
    let times : 10000 * q ^ k ≤ 10000 * g ^ k = le_of_mul-le-mul_right all pos in
    power-order q g k some (omega arith)

capped : (u k g x : ℕ) → x ≤ g → 4 * g ^ k ≤ 5 * u ^ k → 4 * x ^ k ≤ 5 * u ^ k
capped u k g x less cap = let power : x ^ k ≤ g ^ k = pow-le-pow_left less k in omega arith

-- a power of a number whose 180th power is at most 1.25 is at most 1.25
part-low : (u p q e : ℕ) → 0 < u → e ≤ 180 → 4 * q ^ 180 ≤ 5 * u ^ 180 → p * u ^ e ≤ q ^ e * u → 4 * p ≤ 5 * u
part-low u p q e pos few cap below =
    let part : 4 * q ^ e ≤ 5 * u ^ e = times-in_reach u q 4 5 e 180 pos (lit≤ tt) few cap in
    let times : 4 * q ^ e * u ≤ 5 * u ^ e * u = mul-le-mul_right u part in
    let all : 4 * p * u ^ e ≤ 5 * u * u ^ e = omega arith in
    le_of_mul-le-mul_right all (one-le-pow e u pos)

below-two : (u c lo hi m : ℕ) → 0 < u → c * 8 ≤ u → 4 * lo ≤ 5 * u → m * u ≤ hi + u → hi ≤ lo + c * m → m ≤ 2
below-two u c lo hi m pos few low whole width =
    let one : hi * u ≤ (lo + c * m) * u = mul-le-mul_right u width in
    let two : c * (m * u) ≤ c * (hi + u) = mul-le-mul_left c whole in
    let three : c * 8 * (hi + u) ≤ u * (hi + u) = mul-le-mul_right (hi + u) few in
    let four : 4 * lo * u ≤ 5 * u * u = mul-le-mul_right u low in
    let five : 7 * hi * u ≤ 11 * u * u = omega arith in
    let six : 7 * hi ≤ 11 * u = le_of_mul-le-mul_right five pos in
    let seven : m * u < suc 2 * u = omega arith in
    let eight : m < suc 2 = lt_of_mul-lt-mul_right u seven in
    omega arith

-- 180 * 66 * 2
part-narrow : (p r e w : ℕ) → e ≤ 180 → w ≤ 64 → 4 * p ≤ 5 * 2 ^ 60 → r - p ≤ e * (w + 2) * whole_above r → r ≤ p + 23760
part-narrow p r e w few thin low width =
    let most : e * (w + 2) ≤ 180 * 66 = mul-le-mul few (let less : w + 2 ≤ 66 = omega arith in less) in
    let wide : e * (w + 2) * whole_above r ≤ 11880 * whole_above r = mul-le-mul_right (whole_above r) most in
    let near : whole_above r * 2 ^ 60 ≤ r + 2 ^ 60 = omega arith in
    let two : whole_above r ≤ 2 = below-two (2 ^ 60) 11880 p r (whole_above r) (lit< tt) (lit≤ tt) low near (omega arith) in
    omega arith

-- the discount factor of half a year
pub record IsDiscount (v lo hi : ℕ) : Type 0 where
  pub below : lo * v ≤ 2000000 * 2 ^ 60
  pub above : 2000000 * 2 ^ 60 ≤ hi * v
  pub ordered : lo ≤ hi
  pub narrow : hi ≤ lo + 1
  pub at_least : 6 * 2 ^ 60 ≤ 10 * lo
  pub at_most : 10000 * hi ≤ 10257 * 2 ^ 60

-- the factor of a broken period: a power up to the 180th of the root of a discount factor
pub record IsPart (v e lo hi : ℕ) : Type 0 where
  pub below : lo ^ 180 * v ^ e ≤ 2000000 ^ e * (2 ^ 60) ^ 180
  pub above : 2000000 ^ e * (2 ^ 60) ^ 180 ≤ hi ^ 180 * v ^ e
  pub low : 4 * lo ≤ 5 * 2 ^ 60
  pub narrow : hi ≤ lo + 23760
  pub ordered : lo ≤ hi

root-capped : (v r s q t : ℕ) → IsDiscount v r s → IsRootSpan r s q t → t ≤ 2 ^ 60 + 2 ^ 50
root-capped v r s q t discount root =
    let most = discount.at_most in
    let order = discount.ordered in
    let small : q ≤ 2 ^ 60 + 2 ^ 49 = root-small (2 ^ 60) 180 (2 ^ 60 + 2 ^ 49) q r (lit< tt) not-zero root.below.cross (omega arith) (lit≤ tt) in
    let near = root.narrow in
    omega arith

pub root-is : (v r s : ℕ) → IsDiscount v r s → IsRootSpan r s (root_low r) (root_high s)
root-is v r s discount =
    let most = discount.at_most in
    root_span r s discount.at_least (omega arith) discount.ordered discount.narrow

-- its powers up to the 180th are small enough to be taken
pub root-in_reach : (v r s e : ℕ) → IsDiscount v r s → e ≤ 180 → root_high s ^ e ≤ 15 * (2 ^ 60) ^ e
root-in_reach v r s e discount few =
    let top : root_high s ≤ 2 ^ 60 + 2 ^ 50 = root-capped v r s (root_low r) (root_high s) discount (root-is v r s discount) in
    let cap : 4 * root_high s ^ 180 ≤ 5 * (2 ^ 60) ^ 180 = capped (2 ^ 60) 180 (2 ^ 60 + 2 ^ 50) (root_high s) top (lit≤ tt) in
    in_reach (2 ^ 60) (root_high s) 15 e 180 (lit< tt) (lit≤ tt) few (omega arith)

pub part-is : (v r s e : ℕ) → IsDiscount v r s → e ≤ 180 → IsPart v e (power_low (root_low r) e) (power_high (root_high s) e)
part-is v r s e discount few =
    let root = root-is v r s discount in
    let order = root.ordered in
    let near = root.narrow in
    let top : root_high s ≤ 2 ^ 60 + 2 ^ 50 = root-capped v r s (root_low r) (root_high s) discount root in
    let cap : 4 * root_low r ^ 180 ≤ 5 * (2 ^ 60) ^ 180 = capped (2 ^ 60) 180 (2 ^ 60 + 2 ^ 50) (root_low r) (omega arith) (lit≤ tt) in
    let power : IsPowerSpan (root_low r) (root_high s) e (power_low (root_low r) e) (power_high (root_high s) e)
    = power_span (root_low r) (root_high s) e few order (root-in_reach v r s e discount few) in
    let low = part-low (2 ^ 60) (power_low (root_low r) e) (root_low r) e (lit< tt) few cap power.below.cross in
    record {
      below = factor-below (2 ^ 60) v 2000000 180 e (root_low r) r (power_low (root_low r) e) (lit< tt) root.below.cross discount.below power.below.cross;
      above = factor-above (2 ^ 60) v 2000000 180 e (root_high s) s (power_high (root_high s) e) (lit< tt) root.above.cross discount.above power.above.cross;
      low = low;
      narrow = part-narrow (power_low (root_low r) e) (power_high (root_high s) e) e (root_high s - root_low r) few (omega arith) low power.narrow;
      ordered = power.ordered;
    }

-- what the product of a sum and that factor holds, and how wide it is
pub record IsSettled (v t m e lo hi : ℕ) : Type 0 where
  pub below : lo ^ 180 * v ^ (m * 180 + e) ≤ 4096 ^ 180 * (t ^ 180 * 2000000 ^ e)
  pub above : 4096 ^ 180 * (t ^ 180 * 2000000 ^ e) ≤ hi ^ 180 * v ^ (m * 180 + e)
  pub narrow : hi < lo + 360 * 4096

settled-narrow : (lo hi p q l h : ℕ) → hi < 2 ^ 64 → hi ≤ lo + 2 ^ 19 → lo ≤ hi → 4 * p ≤ 5 * 2 ^ 60 → q ≤ p + 23760 → h * 2 ^ 60 ≤ hi * q + 2 ^ 60 → lo * p ≤ l * 2 ^ 60 + 2 ^ 60 → h < l + 360 * 4096
settled-narrow lo hi p q l h top width order low near up down =
    let product = product-width (2 ^ 60) lo hi p q l h 16 23760 (omega arith) near order up down in
    let gap : p * (hi - lo) ≤ p * 2 ^ 19 = mul-le-mul_left p (let less : hi - lo ≤ 2 ^ 19 = omega arith in less) in
    omega (arith, product, gap)

pub last-step : (v e t m lo hi p q l h : ℕ) → IsPart v e p q → lo * v ^ m ≤ 4096 * t → 4096 * t ≤ hi * v ^ m → lo ≤ hi → hi < 2 ^ 64 → hi ≤ lo + 2 ^ 19 → l * 2 ^ 60 ≤ lo * p → lo * p ≤ l * 2 ^ 60 + 2 ^ 60 → hi * q ≤ h * 2 ^ 60 → h * 2 ^ 60 ≤ hi * q + 2 ^ 60 → IsSettled v t m e l h
last-step v e t m lo hi p q l h part under over order top width floor floor_near ceiling ceiling_near = record {
  below = last-below (2 ^ 60) v 4096 2000000 180 e m lo p l t (lit< tt) floor under part.below;
  above = last-above (2 ^ 60) v 4096 2000000 180 e m hi q h t (lit< tt) ceiling over part.above;
  narrow = settled-narrow lo hi p q l h top width order part.low part.narrow ceiling_near floor_near;
}
