-- The DV01 that is printed of a series.
use Rattle.std.proofs.Common.{◌≡◌, ℕ, ◌+◌, ◌-◌, ◌*◌, ◌/◌, ◌^◌, ◌<◌, ◌≤◌, arith, lit<}
use Rattle.std.proofs.Math.Nat.{mul-le-mul, mul-le-mul_left, mul-le-mul_right, le_of_mul-le-mul_right}
use Rattle.std.proofs.lemmas.Nat.{mul-pow}
use Rattle.muni_rule.proofs.PowerLemmas.{pow-split, reached-power, not_passed-power}
use Rattle.muni_span.specs.Holding.{HoldsPower}
use Rattle.muni_span.proofs.Holding.{fraction_holds, product_holds}
use Rattle.muni_span.proofs.Quotients.{IsRounded, rounded_plain}
use Rattle.muni_span.proofs.SumSteps.{product-width}
use Rattle.muni_span.proofs.FactorSteps.{IsDiscount, IsPart}

-- ---- the ends, discounted by half a year more and by the days up to the first payment
-- two ends in units of 2^-44, and their products with a factor
pub record AreScaled (lo hi r s l h : ℕ) : Type 0 where
  pub low : l ≡ lo * r / 2 ^ 60
  pub high : h ≡ (hi * s + (2 ^ 60 - 1)) / 2 ^ 60

scaled-round : (lo hi r s l h : ℕ) → AreScaled lo hi r s l h → IsRounded (2 ^ 60) (lo * r) (hi * s) l h
scaled-round lo hi r s l h are = rounded_plain (2 ^ 60) (lo * r) (hi * s) l h (lit< tt) are.low are.high

half_year-below : (lo r l h v x t : ℕ) → l * 2 ^ 60 ≤ lo * r → r * v ≤ h * 2 ^ 60 → lo * x ≤ 2 ^ 44 * t → l * (x * v) ≤ t * h * 2 ^ 44
half_year-below lo r l h v x t round factor sum =
    let one : l * 2 ^ 60 * (x * v) ≤ lo * r * (x * v) = mul-le-mul_right (x * v) round in
    let two : (r * v) * (lo * x) ≤ (h * 2 ^ 60) * (lo * x) = mul-le-mul_right (lo * x) factor in
    let three : (lo * x) * h ≤ (2 ^ 44 * t) * h = mul-le-mul_right h sum in
    omega (arith, one, two, three)

half_year-above : (hi s l h v x t : ℕ) → hi * s ≤ l * 2 ^ 60 → h * 2 ^ 60 ≤ s * v → 2 ^ 44 * t ≤ hi * x → t * h * 2 ^ 44 ≤ l * (x * v)
half_year-above hi s l h v x t round factor sum =
    let one : hi * s * (x * v) ≤ l * 2 ^ 60 * (x * v) = mul-le-mul_right (x * v) round in
    let two : (h * 2 ^ 60) * (hi * x) ≤ (s * v) * (hi * x) = mul-le-mul_right (hi * x) factor in
    let three : (2 ^ 44 * t) * h ≤ (hi * x) * h = mul-le-mul_right h sum in
    omega (arith, one, two, three)

-- so they hold the sum with days t, times two million over v, times that factor
pub settled-holds : (lo hi r s l h p q l' h' v x e t : ℕ) → IsDiscount v r s → IsPart v e p q → lo * x ≤ 2 ^ 44 * t → 2 ^ 44 * t ≤ hi * x → AreScaled lo hi r s l h → AreScaled l h p q l' h'
    → HoldsPower (2 ^ 44) l' h' 180 ((t * 2000000) ^ 180 * 2000000 ^ e) ((x * v) ^ 180 * v ^ e)
settled-holds lo hi r s l h p q l' h' v x e t discount part under over first second =
    let round = scaled-round lo hi r s l h first in
    let summed : HoldsPower (2 ^ 44) l h 180 ((t * 2000000) ^ 180) ((x * v) ^ 180)
    = fraction_holds (2 ^ 44) l h 180 (t * 2000000) (x * v) (half_year-below lo r l 2000000 v x t round.floor_under discount.below under) (half_year-above hi s h 2000000 v x t round.ceiling_over discount.above over) in
    let parted : HoldsPower (2 ^ 60) p q 180 (2000000 ^ e) (v ^ e) = record { below = record { cross = part.below }; above = record { cross = part.above } } in
    product_holds (2 ^ 44) (2 ^ 60) l h p q l' h' 180 ((t * 2000000) ^ 180) ((x * v) ^ 180) (2000000 ^ e) (v ^ e) (lit< tt) (lit< tt) (scaled-round l h p q l' h' second) summed parted

-- ---- their width
-- sums with days are below 1,661,132,812,500,000 ones
pub record IsNarrow (lo hi : ℕ) : Type 0 where
  pub ordered : lo ≤ hi
  pub small : hi ≤ 1661132812500000 * 2 ^ 60
  pub narrow : hi ≤ lo + 330000000000000000

half_year-order : (lo hi r s l h : ℕ) → lo ≤ hi → r ≤ s → l * 2 ^ 60 ≤ lo * r → hi * s ≤ h * 2 ^ 60 → l ≤ h
half_year-order lo hi r s l h order factors floor ceiling =
    let product : lo * r ≤ hi * s = mul-le-mul order factors in
    let all : l * 2 ^ 60 ≤ h * 2 ^ 60 = omega arith in
    le_of_mul-le-mul_right all (lit< tt)

half_year-narrow : (lo hi r s l h v : ℕ) → IsNarrow lo hi → IsDiscount v r s → IsRounded (2 ^ 60) (lo * r) (hi * s) l h → h ≤ l + 341000000000000000
half_year-narrow lo hi r s l h v narrow discount round =
    let near = round.ceiling_near in
    let gap = narrow.narrow in
    let most = discount.at_most in
    let factors = discount.ordered in
    let wide = product-width (2 ^ 60) lo hi r s l h 1661132812500000 1 narrow.small discount.narrow narrow.ordered (omega (arith, near)) round.floor_near in
    let product : r * (hi - lo) ≤ r * 330000000000000000 = mul-le-mul_left r (let less : hi - lo ≤ 330000000000000000 = omega (arith, gap) in less) in
    omega (arith, wide, product, most, factors)

pub half_year-small : (hi s h : ℕ) → hi ≤ 1661132812500000 * 2 ^ 60 → 10000 * s ≤ 10257 * 2 ^ 60 → h * 2 ^ 60 < hi * s + 2 ^ 60 → h ≤ 1703823925781251 * 2 ^ 60
half_year-small hi s h small most near =
    let product : hi * (10000 * s) ≤ 1661132812500000 * 2 ^ 60 * (10257 * 2 ^ 60) = mul-le-mul small most in
    omega (arith, product, near)

pub settled-narrow : (lo hi r s l h p q l' h' v e : ℕ) → IsNarrow lo hi → IsDiscount v r s → IsPart v e p q → AreScaled lo hi r s l h → AreScaled l h p q l' h' → h' ≤ l' + 41000000000000000000
settled-narrow lo hi r s l h p q l' h' v e narrow discount part first second =
    let round = scaled-round lo hi r s l h first in
    let next = scaled-round l h p q l' h' second in
    let order : l ≤ h = half_year-order lo hi r s l h narrow.ordered discount.ordered round.floor_under round.ceiling_over in
    let gap : h ≤ l + 341000000000000000 = half_year-narrow lo hi r s l h v narrow discount round in
    let small : h ≤ 1703823925781251 * 2 ^ 60 = half_year-small hi s h narrow.small discount.at_most round.ceiling_near in
    let near = next.ceiling_near in
    let low = part.low in
    let wide = product-width (2 ^ 60) l h p q l' h' 1703823925781251 23760 small part.narrow order (omega (arith, near)) next.floor_near in
    let product : p * (h - l) ≤ p * 341000000000000000 = mul-le-mul_left p (let less : h - l ≤ 341000000000000000 = omega (arith, gap) in less) in
    omega (arith, wide, product, low)

pub settled-order : (lo hi r s l h p q l' h' v e : ℕ) → IsNarrow lo hi → IsDiscount v r s → IsPart v e p q → AreScaled lo hi r s l h → AreScaled l h p q l' h' → l' ≤ h'
settled-order lo hi r s l h p q l' h' v e narrow discount part first second =
    let round = scaled-round lo hi r s l h first in
    let next = scaled-round l h p q l' h' second in
    half_year-order l h p q l' h' (half_year-order lo hi r s l h narrow.ordered discount.ordered round.floor_under round.ceiling_over) part.ordered next.floor_under next.ceiling_over

product-small : (h q h' p : ℕ) → h ≤ 1703823925781251 * 2 ^ 60 → q ≤ p + 23760 → 4 * p ≤ 5 * 2 ^ 60 → h' * 2 ^ 60 < h * q + 2 ^ 60 → h' ≤ 2 ^ 112
product-small h q h' p small near low round =
    let most : q ≤ 2 ^ 61 = omega arith in
    let product : h * q ≤ 1703823925781251 * 2 ^ 60 * 2 ^ 61 = mul-le-mul small most in
    omega (arith, product, round)

pub settled-small : (lo hi r s l h p q l' h' v e : ℕ) → IsNarrow lo hi → IsDiscount v r s → IsPart v e p q → AreScaled lo hi r s l h → AreScaled l h p q l' h' → h' ≤ 2 ^ 112
settled-small lo hi r s l h p q l' h' v e narrow discount part first second =
    let round = scaled-round lo hi r s l h first in
    let next = scaled-round l h p q l' h' second in
    let small : h ≤ 1703823925781251 * 2 ^ 60 = half_year-small hi s h narrow.small discount.at_most round.ceiling_near in
    product-small h q h' p small part.narrow part.low next.ceiling_near

-- ---- the printed figure
-- x is nearest to the middle of the ends, so the exact DV01 lies between these
pub record IsPrintedBetween (x l h : ℕ) : Type 0 where
  pub low : (2_000_000 * x - 1_000_002) * 648_000 * 2 ^ 44 ≤ l
  pub high : h ≤ (2_000_000 * x + 1_000_002) * 648_000 * 2 ^ 44

pub printed-between : (x l h : ℕ) → h ≤ l + 41000000000000000000 → l ≤ h → x ≡ (l + h + 1_296_000_000_000 * 2 ^ 44) / (2 * (1_296_000_000_000 * 2 ^ 44)) → IsPrintedBetween x l h
printed-between x l h narrow order is = record { low = omega (arith, is); high = omega (arith, is) }

-- what is below a lower end, times v and the whole sum w, is at most the worth by the duration
worth-below : (c t w v m e l : ℕ) → c * 648_000 * 2 ^ 44 ≤ l → l ^ 180 * ((v ^ m * v) ^ 180 * v ^ e) ≤ (2 ^ 44) ^ 180 * ((t * 2000000) ^ 180 * 2000000 ^ e)
    → (1_800 * c * (360 * v * w)) ^ 180 * v ^ (m * 180 + e) ≤ (t * 2000000) ^ 180 * (w ^ 180 * 2000000 ^ e)
worth-below c t w v m e l under law =
    let reached : (c * 648_000) ^ 180 * ((v ^ m * v) ^ 180 * v ^ e) ≤ (t * 2000000) ^ 180 * 2000000 ^ e
    = reached-power (2 ^ 44) 180 (c * 648_000) l ((v ^ m * v) ^ 180 * v ^ e) ((t * 2000000) ^ 180 * 2000000 ^ e) (lit< tt) under law in
    let split : (c * 648_000) ^ 180 * ((v ^ m) ^ 180 * v ^ 180 * v ^ e) ≤ (t * 2000000) ^ 180 * 2000000 ^ e = rw (mul-pow (v ^ m) v 180) at reached in
    let product : 1_800 * c * (360 * v * w) ≡ c * 648_000 * v * w = omega arith in
    let whole : (c * 648_000) ^ 180 * ((v ^ m) ^ 180 * v ^ 180 * v ^ e) * w ^ 180 ≤ (t * 2000000) ^ 180 * 2000000 ^ e * w ^ 180 = mul-le-mul_right (w ^ 180) split in
    rw (product, mul-pow (c * 648_000 * v) w 180, mul-pow (c * 648_000) v 180, pow-split v m 180 e) (omega (arith, whole))

worth-above : (c t w v m e h : ℕ) → h ≤ c * 648_000 * 2 ^ 44 → (2 ^ 44) ^ 180 * ((t * 2000000) ^ 180 * 2000000 ^ e) ≤ h ^ 180 * ((v ^ m * v) ^ 180 * v ^ e)
    → (t * 2000000) ^ 180 * (w ^ 180 * 2000000 ^ e) ≤ (1_800 * c * (360 * v * w)) ^ 180 * v ^ (m * 180 + e)
worth-above c t w v m e h over law =
    let passed : (t * 2000000) ^ 180 * 2000000 ^ e ≤ (c * 648_000) ^ 180 * ((v ^ m * v) ^ 180 * v ^ e)
    = not_passed-power (2 ^ 44) 180 (c * 648_000) h ((v ^ m * v) ^ 180 * v ^ e) ((t * 2000000) ^ 180 * 2000000 ^ e) (lit< tt) over law in
    let split : (t * 2000000) ^ 180 * 2000000 ^ e ≤ (c * 648_000) ^ 180 * ((v ^ m) ^ 180 * v ^ 180 * v ^ e) = rw (mul-pow (v ^ m) v 180) at passed in
    let product : 1_800 * c * (360 * v * w) ≡ c * 648_000 * v * w = omega arith in
    let whole : (t * 2000000) ^ 180 * 2000000 ^ e * w ^ 180 ≤ (c * 648_000) ^ 180 * ((v ^ m) ^ 180 * v ^ 180 * v ^ e) * w ^ 180 = mul-le-mul_right (w ^ 180) split in
    rw (product, mul-pow (c * 648_000 * v) w 180, mul-pow (c * 648_000) v 180, pow-split v m 180 e) (omega (arith, whole))

-- both in the numbers of the ends
pub record AreWorthEnds (x t w v m e : ℕ) : Type 0 where
  pub below : (1_800 * (2_000_000 * x - 1_000_002) * (360 * v * w)) ^ 180 * v ^ (m * 180 + e) ≤ (t * 2000000) ^ 180 * (w ^ 180 * 2000000 ^ e)
  pub above : (t * 2000000) ^ 180 * (w ^ 180 * 2000000 ^ e) ≤ (1_800 * (2_000_000 * x + 1_000_002) * (360 * v * w)) ^ 180 * v ^ (m * 180 + e)

pub worth-ends : (x t w v m e l h : ℕ) → IsPrintedBetween x l h → HoldsPower (2 ^ 44) l h 180 ((t * 2000000) ^ 180 * 2000000 ^ e) ((v ^ m * v) ^ 180 * v ^ e) → AreWorthEnds x t w v m e
worth-ends x t w v m e l h between holds =
    let below = holds.below.cross in
    let above = holds.above.cross in
    record {
      below = worth-below (2_000_000 * x - 1_000_002) t w v m e l between.low (omega (arith, below));
      above = worth-above (2_000_000 * x + 1_000_002) t w v m e h between.high (omega (arith, above));
    }
