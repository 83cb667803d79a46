-- Sums of equal payments from those of half as many: of m payments, the second half is discounted by
-- that many half-years. Numbers are counted in units of 1 / u. An end with m half-years behind it is
-- held by b / a, where a and b are the m-th powers of two numbers that bound the discount factor.
use Rattle.std.proofs.Common.{ℕ, ◌+◌, ◌-◌, ◌*◌, ◌/◌, ◌^◌, ◌<◌, ◌≤◌, arith, lit≤, lit<}
use Rattle.std.proofs.Math.Nat.{mul-le-mul, mul-le-mul_left, mul-le-mul_right, le_of_mul-le-mul_right, pow-le-pow_left, one-le-pow}
use Rattle.std.proofs.lemmas.Nat.{pow-add, mul-pow}
use Rattle.muni_span.specs.Powers.{power_low, power_high}
use Rattle.muni_span.specs.Widths.{whole_above}
use Rattle.muni_span.proofs.FactorSteps.{IsDiscount}
use Rattle.muni_span.proofs.PowerLaws.{IsPowerSpan, power_span, in_reach}
use Rattle.muni_span.proofs.SumSteps.{times-gap}

-- ---- powers of the discount factor
power-below : (u v h m r p : ℕ) → 0 < u → r * v ≤ h * u → p * u ^ m ≤ r ^ m * u → p * v ^ m ≤ h ^ m * u
power-below u v h m r p pos ratio power =
    let raised : (r * v) ^ m ≤ (h * u) ^ m = pow-le-pow_left ratio m in
    let split : r ^ m * v ^ m ≤ h ^ m * u ^ m = rw (mul-pow r v m, mul-pow h u m) at raised in
    let one : p * u ^ m * v ^ m ≤ r ^ m * u * v ^ m = mul-le-mul_right (v ^ m) power in
    let two : r ^ m * v ^ m * u ≤ h ^ m * u ^ m * u = mul-le-mul_right u split in
    let all : p * v ^ m * u ^ m ≤ h ^ m * u * u ^ m = omega arith in
    le_of_mul-le-mul_right all (one-le-pow m u pos)

power-above : (u v h m r p : ℕ) → 0 < u → h * u ≤ r * v → r ^ m * u ≤ p * u ^ m → h ^ m * u ≤ p * v ^ m
power-above u v h m r p pos ratio power =
    let raised : (h * u) ^ m ≤ (r * v) ^ m = pow-le-pow_left ratio m in
    let split : h ^ m * u ^ m ≤ r ^ m * v ^ m = rw (mul-pow h u m, mul-pow r v m) at raised in
    let one : r ^ m * u * v ^ m ≤ p * u ^ m * v ^ m = mul-le-mul_right (v ^ m) power in
    let two : h ^ m * u ^ m * u ≤ r ^ m * v ^ m * u = mul-le-mul_right u split in
    let all : h ^ m * u * u ^ m ≤ p * v ^ m * u ^ m = omega arith in
    le_of_mul-le-mul_right all (one-le-pow m u pos)

-- the ends of a power of the discount factor 2,000,000 / v
pub record IsDiscountPower (v k lo hi : ℕ) : Type 0 where
  pub below : lo * v ^ k ≤ 2000000 ^ k * 2 ^ 60
  pub above : 2000000 ^ k * 2 ^ 60 ≤ hi * v ^ k
  pub ordered : lo ≤ hi
  pub small : lo * 10000 ^ k ≤ 10257 ^ k * 2 ^ 60
  pub narrow : hi ≤ lo + 48 * k

-- up to the 99th power it is at most 15
pub discount-in_reach : (s k : ℕ) → k ≤ 99 → 10000 * s ≤ 10257 * 2 ^ 60 → s ^ k ≤ 15 * (2 ^ 60) ^ k
discount-in_reach s k few growth =
    let top : s ≤ 10257 * 2 ^ 60 / 10000 = omega arith in
    let power : s ^ 99 ≤ (10257 * 2 ^ 60 / 10000) ^ 99 = pow-le-pow_left top 99 in
    let most : (10257 * 2 ^ 60 / 10000) ^ 99 ≤ 15 * (2 ^ 60) ^ 99 = lit≤ tt in
    in_reach (2 ^ 60) s 15 k 99 (lit< tt) (lit≤ tt) few (omega arith)

low-in_reach : (u r k lo : ℕ) → 0 < u → lo * u ^ k ≤ r ^ k * u → r ^ k ≤ 15 * u ^ k → lo ≤ 15 * u
low-in_reach u r k lo pos below reach =
    let one : r ^ k * u ≤ 15 * u ^ k * u = mul-le-mul_right u reach in
    let all : lo * u ^ k ≤ 15 * u * u ^ k = omega arith in
    le_of_mul-le-mul_right all (one-le-pow k u pos)

power-narrow : (k w lo hi : ℕ) → k ≤ 99 → w ≤ 1 → lo ≤ 15 * 2 ^ 60 → hi - lo ≤ k * (w + 2) * whole_above hi → hi ≤ lo + 48 * k
power-narrow k w lo hi few thin reach width =
    let wide : k * (w + 2) ≤ k * 3 = mul-le-mul_left k (let less : w + 2 ≤ 3 = omega arith in less) in
    let one : k * (w + 2) * whole_above hi ≤ k * 3 * whole_above hi = mul-le-mul_right (whole_above hi) wide in
    let two : k * (3 * whole_above hi) ≤ 99 * (3 * whole_above hi) = mul-le-mul_right (3 * whole_above hi) few in
    let near : whole_above hi * 2 ^ 60 ≤ hi + 2 ^ 60 = omega arith in
    let whole : whole_above hi ≤ 16 = omega arith in
    let three : k * 3 * whole_above hi ≤ k * 3 * 16 = mul-le-mul_left (k * 3) whole in
    omega arith

pub discount_power-is : (v r s k : ℕ) → IsDiscount v r s → k ≤ 99 → IsDiscountPower v k (power_low r k) (power_high s k)
discount_power-is v r s k discount few =
    let order : r ≤ s = discount.ordered in
    let most : 10000 * s ≤ 10257 * 2 ^ 60 = discount.at_most in
    let thin : s ≤ r + 1 = discount.narrow in
    let reach : s ^ k ≤ 15 * (2 ^ 60) ^ k = discount-in_reach s k few most in
    let lower : r ^ k ≤ s ^ k = pow-le-pow_left order k in
    let power : IsPowerSpan r s k (power_low r k) (power_high s k) = power_span r s k (omega arith) order reach in
    let low : power_low r k ≤ 15 * 2 ^ 60 = low-in_reach (2 ^ 60) r k (power_low r k) (lit< tt) power.below.cross (omega arith) in
    record {
      below = power-below (2 ^ 60) v 2000000 k r (power_low r k) (lit< tt) discount.below power.below.cross;
      above = power-above (2 ^ 60) v 2000000 k s (power_high s k) (lit< tt) discount.above power.above.cross;
      ordered = power.ordered;
      small = power-below (2 ^ 60) 10000 10257 k r (power_low r k) (lit< tt) (omega arith) power.below.cross;
      narrow = power-narrow k (s - r) (power_low r k) (power_high s k) few (omega arith) low power.narrow;
    }

-- ---- one run of payments, and then another
joined_step-below : (u v c s s' p q t t' hm vm vk : ℕ) → 0 < u → q * u ≤ s' * p → p * vm ≤ hm * u → s * vm ≤ c * (t * v) → s' * vk ≤ c * (t' * v) → (s + q) * (vm * vk) ≤ c * ((t * vk + hm * t') * v)
joined_step-below u v c s s' p q t t' hm vm vk pos round power first second =
    let one : q * u * (vm * vk) ≤ s' * p * (vm * vk) = mul-le-mul_right (vm * vk) round in
    let two : s' * vk * (p * vm) ≤ c * (t' * v) * (hm * u) = mul-le-mul second power in
    let all : q * (vm * vk) * u ≤ c * (hm * t' * v) * u = omega arith in
    let later : q * (vm * vk) ≤ c * (hm * t' * v) = le_of_mul-le-mul_right all pos in
    let sooner : s * vm * vk ≤ c * (t * v) * vk = mul-le-mul_right vk first in
    omega arith

joined_step-above : (u v c s s' p q t t' hm vm vk : ℕ) → 0 < u → s' * p ≤ q * u → hm * u ≤ p * vm → c * (t * v) ≤ s * vm → c * (t' * v) ≤ s' * vk → c * ((t * vk + hm * t') * v) ≤ (s + q) * (vm * vk)
joined_step-above u v c s s' p q t t' hm vm vk pos round power first second =
    let one : s' * p * (vm * vk) ≤ q * u * (vm * vk) = mul-le-mul_right (vm * vk) round in
    let two : c * (t' * v) * (hm * u) ≤ s' * vk * (p * vm) = mul-le-mul second power in
    let all : c * (hm * t' * v) * u ≤ q * (vm * vk) * u = omega arith in
    let later : c * (hm * t' * v) ≤ q * (vm * vk) = le_of_mul-le-mul_right all pos in
    let sooner : c * (t * v) * vk ≤ s * vm * vk = mul-le-mul_right vk first in
    omega arith

-- a run of m payments with the end s, and one of k with the end s', which is discounted by p
pub joined-below : (u v c m k s s' p q t t' hm : ℕ) → 0 < u → q * u ≤ s' * p → p * v ^ m ≤ hm * u → s * v ^ m ≤ c * (t * v) → s' * v ^ k ≤ c * (t' * v) → (s + q) * v ^ (m + k) ≤ c * ((t * v ^ k + hm * t') * v)
joined-below u v c m k s s' p q t t' hm pos round power first second =
    rw (pow-add v m k) (joined_step-below u v c s s' p q t t' hm (v ^ m) (v ^ k) pos round power first second)

pub joined-above : (u v c m k s s' p q t t' hm : ℕ) → 0 < u → s' * p ≤ q * u → hm * u ≤ p * v ^ m → c * (t * v) ≤ s * v ^ m → c * (t' * v) ≤ s' * v ^ k → c * ((t * v ^ k + hm * t') * v) ≤ (s + q) * v ^ (m + k)
joined-above u v c m k s s' p q t t' hm pos round power first second =
    rw (pow-add v m k) (joined_step-above u v c s s' p q t t' hm (v ^ m) (v ^ k) pos round power first second)

-- ---- how far ends are apart
-- the gap between the rounded products of two ends with those of a factor
pub scaled-gap : (u lo d rl e p q : ℕ) → d * e ≤ u → lo * rl ≤ p * u + u → q * u ≤ (lo + d) * (rl + e) + u → (q - p) * u ≤ lo * e + d * rl + 3 * u
scaled-gap u lo d rl e p q thin down up = times-gap u p q (lo * e + d * rl + 3 * u) (omega arith)

-- a product of two small ends is small
pub scaled-small : (u lo pl p c a b x y : ℕ) → 0 < u → p * u ≤ lo * pl → lo * a ≤ c * b → pl * x ≤ y * u → p * (a * x) ≤ c * (b * y)
scaled-small u lo pl p c a b x y pos round small factor =
    let one : p * u * (a * x) ≤ lo * pl * (a * x) = mul-le-mul_right (a * x) round in
    let two : lo * a * (pl * x) ≤ c * b * (y * u) = mul-le-mul small factor in
    let all : p * (a * x) * u ≤ c * (b * y) * u = omega arith in
    le_of_mul-le-mul_right all pos

-- and the gap of such a product is small too
pub scaled-narrow : (u lo d pl e g c w s a b x y : ℕ) → 0 < u → g * u ≤ lo * e + d * pl + 3 * u → lo * a ≤ c * b → c * e ≤ s * u → d * a ≤ w * b → pl * x ≤ y * u → a ≤ b → x ≤ y → g * (a * x) ≤ (s + w + 3) * (b * y)
scaled-narrow u lo d pl e g c w s a b x y pos gap small wide narrow factor less more =
    let one : g * u * (a * x) ≤ (lo * e + d * pl + 3 * u) * (a * x) = mul-le-mul_right (a * x) gap in
    let two : lo * a * (e * x) ≤ c * b * (e * x) = mul-le-mul_right (e * x) small in
    let three : c * e * (b * x) ≤ s * u * (b * x) = mul-le-mul_right (b * x) wide in
    let four : s * u * b * x ≤ s * u * b * y = mul-le-mul_left (s * u * b) more in
    let five : d * a * (pl * x) ≤ w * b * (y * u) = mul-le-mul narrow factor in
    let six : 3 * u * (a * x) ≤ 3 * u * (b * y) = mul-le-mul_left (3 * u) (mul-le-mul less more) in
    let all : g * (a * x) * u ≤ (s + w + 3) * (b * y) * u = omega arith in
    le_of_mul-le-mul_right all pos

-- twice as many payments: the lower end, and the gap
pub doubled-small : (lo p j a b : ℕ) → lo * a ≤ 22118400000000000 * j * b → p * (a * a) ≤ 22118400000000000 * j * (b * b) → a ≤ b → (lo + p) * (a * a) ≤ 22118400000000000 * (j + j) * (b * b)
doubled-small lo p j a b small later less =
    let one : lo * a * a ≤ 22118400000000000 * j * b * a = mul-le-mul_right a small in
    let two : 22118400000000000 * j * b * a ≤ 22118400000000000 * j * b * b = mul-le-mul_left (22118400000000000 * j * b) less in
    omega arith

pub doubled-narrow : (d g j a b : ℕ) → 1 ≤ j → d * a ≤ 2 * (j * j) * b → g * (a * a) ≤ (j * j + 2 * (j * j) + 3) * (b * b) → a ≤ b → (d + g) * (a * a) ≤ 2 * ((j + j) * (j + j)) * (b * b)
doubled-narrow d g j a b some first second less =
    let one : d * a * a ≤ 2 * (j * j) * b * a = mul-le-mul_right a first in
    let two : 2 * (j * j) * b * a ≤ 2 * (j * j) * b * b = mul-le-mul_left (2 * (j * j) * b) less in
    let square : 1 * 1 ≤ j * j = mul-le-mul some some in
    let three : 1 * (3 * (b * b)) ≤ j * j * (3 * (b * b)) = mul-le-mul_right (3 * (b * b)) (let once : 1 ≤ j * j = omega arith in once) in
    omega arith

-- and one payment more in front
pub more-small : (p pay m a b x y : ℕ) → p * (a * x) ≤ 22118400000000000 * m * (b * y) → pay ≤ 22118400000000000 → a ≤ b → x ≤ y → (p + pay) * (a * x) ≤ 22118400000000000 * (m + 1) * (b * y)
more-small p pay m a b x y later payment less more =
    let one : pay * (a * x) ≤ 22118400000000000 * (b * y) = mul-le-mul payment (mul-le-mul less more) in
    omega arith

pub more-narrow : (m c z : ℕ) → 1 ≤ m → z ≤ (m + 2 * (m * m) + 3) * c → z ≤ 2 * ((m + 1) * (m + 1)) * c
more-narrow m c z some gap =
    let one : 1 * c ≤ m * c = mul-le-mul_right c some in
    omega arith
