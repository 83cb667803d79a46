-- The ends of a sum from the last payment to the first: what they hold, how large they are, and how far
-- apart. Factors are in units of 2^-60.
use Rattle.std.proofs.Common.{◌≡◌, ℕ, suc, zero, ◌+◌, ◌-◌, ◌*◌, ◌/◌, ◌^◌, ◌<◌, ◌≤◌, refl, ap, ◌∙◌, arith, lit≤, lit<}
use Rattle.std.proofs.Math.Nat.{mul-le-mul, mul-le-mul_left, mul-le-mul_right, le_of_mul-le-mul_right, pow-le-pow_left, pow-suc, pow-zero}
use Rattle.muni_rule.proofs.SumLemmas.{tail_sum, tail_sum-more, tail_sum-one}
use Rattle.muni_span.proofs.Quotients.{IsRounded, rounded_plain}
use Rattle.muni_span.proofs.SumSteps.{step-below, step-above, step-bound, bound-end, times-gap}
use Rattle.muni_span.proofs.FactorSteps.{IsDiscount}
use Rattle.muni_multi.specs.Horner.{sum_low, sum_high}
use Rattle.muni_multi.specs.HornerLaws.{sum_low-more, sum_high-more, sum_low-one, sum_high-one}

-- The ends of a sum t / v^m whose payments are at most e, and the last one 8e. A step multiplies them by at
-- most 1.0257. An upper end with a reserve for later payments is at most 48e times that, and two ends
-- are apart by 2^-59 of the upper one for each step, beside what roundings make.
pub record IsSum (e t v m lo hi : ℕ) : Type 0 where
  pub below : lo * v ^ m ≤ 4096 * t
  pub above : 4096 * t ≤ hi * v ^ m
  pub ordered : lo ≤ hi
  pub bound : (hi + 40 * e) * 10000 ^ m ≤ 48 * e * 10257 ^ m
  pub narrow : (2 ^ 60 * hi + 78 * 2 ^ 60) * 10000 ^ m ≤ (2 ^ 60 * lo + 2 * m * hi) * 10000 ^ m + 78 * 2 ^ 60 * 10257 ^ m

-- what is known at the end
pub record IsNarrow (e lo hi : ℕ) : Type 0 where
  pub small : hi ≤ 560 * e
  pub narrow : 2 ^ 60 * hi ≤ 2 ^ 60 * lo + 198 * hi + 900 * 2 ^ 60

one-sum : (e t v p lo hi : ℕ) → 4096 * p ≤ 8 * e → t ≡ p → lo ≡ 4096 * p → hi ≡ 4096 * p → IsSum e t v 0 lo hi
one-sum e t v p lo hi small is low high =
    record {
      below = rw (pow-zero v, is, low) (omega arith);
      above = rw (pow-zero v, is, high) (omega arith);
      ordered = omega arith;
      bound = rw (pow-zero 10000, pow-zero 10257, high) (omega arith);
      narrow = rw (pow-zero 10000, pow-zero 10257, high, low) (omega arith);
    }

rounded-order : (lo hi r s l h : ℕ) → lo ≤ hi → r ≤ s → l * 2 ^ 60 ≤ lo * r → hi * s ≤ h * 2 ^ 60 → l ≤ h
rounded-order lo hi r s l h order factors floor ceiling =
    let product : lo * r ≤ hi * s = mul-le-mul order factors in
    let all : l * 2 ^ 60 ≤ h * 2 ^ 60 = omega arith in
    le_of_mul-le-mul_right all (lit< tt)

-- the width of a rounded product, before a payment is added
narrow-step : (m lo hi r s l h x y : ℕ) → x ≤ y → r ≤ s → s ≤ r + 1 → 6 * 2 ^ 60 ≤ 10 * r → 10000 * r ≤ 10257 * 2 ^ 60 → lo * r ≤ l * 2 ^ 60 + 2 ^ 60 → hi * s ≤ h * 2 ^ 60 → h * 2 ^ 60 ≤ hi * s + 2 ^ 60
    → (2 ^ 60 * hi + 78 * 2 ^ 60) * x ≤ (2 ^ 60 * lo + 2 * m * hi) * x + 78 * 2 ^ 60 * y
    → (2 ^ 60 * h + 78 * 2 ^ 60) * (x * 10000) ≤ (2 ^ 60 * l + 2 * (m + 1) * h) * (x * 10000) + 78 * 2 ^ 60 * (y * 10257)
narrow-step m lo hi r s l h x y powers factors near least growth floor ceiling ceiling_near so_far =
    let scaled : ((2 ^ 60 * hi + 78 * 2 ^ 60) * x) * r ≤ ((2 ^ 60 * lo + 2 * m * hi) * x + 78 * 2 ^ 60 * y) * r = mul-le-mul_right r so_far in
    let wide : hi * s ≤ hi * (r + 1) = mul-le-mul_left hi near in
    let one : h * 2 ^ 60 ≤ hi * r + hi + 2 ^ 60 = omega arith in
    let upper : (h * 2 ^ 60) * x ≤ (hi * r + hi + 2 ^ 60) * x = mul-le-mul_right x one in
    let lower : (lo * r) * x ≤ (l * 2 ^ 60 + 2 ^ 60) * x = mul-le-mul_right x floor in
    let product : hi * r ≤ hi * s = mul-le-mul_left hi factors in
    let two : hi * r ≤ h * 2 ^ 60 = omega arith in
    let part : (hi * r) * (m * x) ≤ (h * 2 ^ 60) * (m * x) = mul-le-mul_right (m * x) two in
    let share : hi * (6 * 2 ^ 60) ≤ hi * (10 * r) = mul-le-mul_left hi least in
    let half : 6 * hi ≤ 10 * h = omega arith in
    let halves : (6 * hi) * x ≤ (10 * h) * x = mul-le-mul_right x half in
    let split : x + (y - x) ≡ y = omega arith in
    let rest : 10000 * r * (y - x) ≤ 10257 * 2 ^ 60 * (y - x) = mul-le-mul_right (y - x) growth in
    let times : r * (x + (y - x)) ≡ r * y = ap (λ z. r * z) split in
    let more : 10000 * (r * y) + 10257 * 2 ^ 60 * x ≤ 10257 * 2 ^ 60 * y + 10000 * (r * x) = omega arith in
    omega (arith, scaled, upper, lower, part, halves, more)

add-narrow : (m l h a lo hi z w : ℕ) → lo ≡ l + a → hi ≡ h + a → (2 ^ 60 * h + 78 * 2 ^ 60) * z ≤ (2 ^ 60 * l + 2 * (m + 1) * h) * z + w → (2 ^ 60 * hi + 78 * 2 ^ 60) * z ≤ (2 ^ 60 * lo + 2 * suc m * hi) * z + w
add-narrow m l h a lo hi z w low high so_far =
    let more : 0 ≤ 2 * (m + 1) * a * z = omega arith in
    rw (low, high) (omega (arith, so_far, more))

next-sum : (e t t' v m p lo hi r s l h lo' hi' : ℕ) → 36 ≤ e → 4096 * p ≤ e → IsDiscount v r s → t' ≡ p * v ^ suc m + 2000000 * t → IsRounded (2 ^ 60) (lo * r) (hi * s) l h → lo' ≡ l + 4096 * p → hi' ≡ h + 4096 * p → IsSum e t v m lo hi → IsSum e t' v (suc m) lo' hi'
next-sum e t t' v m p lo hi r s l h lo' hi' some payment discount is round low high so_far =
    let power : v ^ suc m ≡ v ^ m * v = pow-suc v m in
    let tail : t' ≡ p * (v ^ m * v) + 2000000 * t = is ∙ ap (λ x. p * x + 2000000 * t) power in
    let order : l ≤ h = rounded-order lo hi r s l h so_far.ordered discount.ordered round.floor_under round.ceiling_over in
    let near : h * 2 ^ 60 ≤ hi * s + 2 ^ 60 = (let under = round.ceiling_near in omega (arith, under)) in
    let factors = discount.ordered in
    let most = discount.at_most in
    let growth : 10000 * r ≤ 10257 * 2 ^ 60 = omega (arith, factors, most) in
    let powers : 10000 ^ m ≤ 10257 ^ m = pow-le-pow_left (lit≤ tt) m in
    let width = narrow-step m lo hi r s l h (10000 ^ m) (10257 ^ m) powers factors discount.narrow discount.at_least growth round.floor_near round.ceiling_over near so_far.narrow in
    let bound : (h + 4096 * p + 40 * e) * (10000 ^ m * 10000) ≤ 48 * e * (10257 ^ m * 10257)
    = step-bound (2 ^ 60) 10000 10257 (48 * e) hi s h (4096 * p) (40 * e) (10000 ^ m) (10257 ^ m) (lit< tt) most near (omega arith) so_far.bound in
    record {
      below = rw (power, tail, low) (step-below (2 ^ 60) v 2000000 4096 lo r l (v ^ m) p t (lit< tt) round.floor_under discount.below so_far.below);
      above = rw (power, tail, high) (step-above (2 ^ 60) v 2000000 4096 hi s h (v ^ m) p t (lit< tt) round.ceiling_over discount.above so_far.above);
      ordered = omega (arith, order, low, high);
      bound = rw (pow-suc 10000 m, pow-suc 10257 m, high) bound;
      narrow = rw (pow-suc 10000 m, pow-suc 10257 m) (add-narrow m l h (4096 * p) lo' hi' (10000 ^ m * 10000) (78 * 2 ^ 60 * (10257 ^ m * 10257)) low high width);
    }

-- the payments from place j on
pub sums : (b : ℕ → ℕ) (e n v r s : ℕ) → 36 ≤ e → IsDiscount v r s → ((k : ℕ) → k + 1 < n → 4096 * b k ≤ e) → ((k : ℕ) → k + 1 ≡ n → 4096 * b k ≤ 8 * e) → (m j : ℕ) → j + suc m ≡ n
    → IsSum e (tail_sum b 2000000 v (suc m) j) v m (sum_low b r (suc m) j) (sum_high b s (suc m) j)
sums b e n v r s some discount early last zero j end =
    one-sum e (tail_sum b 2000000 v 1 j) v (b j) (sum_low b r 1 j) (sum_high b s 1 j) (last j (omega arith)) (tail_sum-one b 2000000 v j) (sum_low-one b r j) (sum_high-one b s j)
sums b e n v r s some discount early last (suc m) j end =
    let lo = sum_low b r (suc m) (suc j) in
    let hi = sum_high b s (suc m) (suc j) in
    next-sum e (tail_sum b 2000000 v (suc m) (suc j)) (tail_sum b 2000000 v (suc (suc m)) j) v m (b j) lo hi r s (lo * r / 2 ^ 60) ((hi * s + (2 ^ 60 - 1)) / 2 ^ 60) (sum_low b r (suc (suc m)) j) (sum_high b s (suc (suc m)) j)
    some (early j (omega arith)) discount (tail_sum-more b 2000000 v (suc m) j)
    (rounded_plain (2 ^ 60) (lo * r) (hi * s) (lo * r / 2 ^ 60) ((hi * s + (2 ^ 60 - 1)) / 2 ^ 60) (lit< tt) refl refl)
    (sum_low-more b r (suc m) j) (sum_high-more b s (suc m) j)
    (sums b e n v r s some discount early last m (suc j) (omega arith))

steps-few : (m hi : ℕ) → m ≤ 99 → 2 * m * hi ≤ 198 * hi
steps-few m hi few = mul-le-mul_right hi (let most : 2 * m ≤ 198 = omega arith in most)

narrow-end : (m lo hi : ℕ) → m ≤ 99 → (2 ^ 60 * hi + 78 * 2 ^ 60) * 10000 ^ m ≤ (2 ^ 60 * lo + 2 * m * hi) * 10000 ^ m + 78 * 2 ^ 60 * 10257 ^ m → 2 ^ 60 * hi ≤ 2 ^ 60 * lo + 198 * hi + 900 * 2 ^ 60
narrow-end m lo hi few narrow =
    let most = steps-few m hi few in
    let less : (2 ^ 60 * lo + 2 * m * hi) * 10000 ^ m ≤ (2 ^ 60 * lo + 198 * hi) * 10000 ^ m = mul-le-mul_right (10000 ^ m) (let sum : 2 ^ 60 * lo + 2 * m * hi ≤ 2 ^ 60 * lo + 198 * hi = omega (arith, most) in sum) in
    let gap : (2 ^ 60 * hi + 78 * 2 ^ 60 - (2 ^ 60 * lo + 198 * hi)) * 10000 ^ m ≤ 78 * 2 ^ 60 * 10257 ^ m
    = times-gap (10000 ^ m) (2 ^ 60 * lo + 198 * hi) (2 ^ 60 * hi + 78 * 2 ^ 60) (78 * 2 ^ 60 * 10257 ^ m) (omega (arith, narrow, less)) in
    let top : 2 ^ 60 * hi + 78 * 2 ^ 60 - (2 ^ 60 * lo + 198 * hi) ≤ 970 * 2 ^ 60
    = bound-end 10000 10257 (78 * 2 ^ 60) (970 * 2 ^ 60) (2 ^ 60 * hi + 78 * 2 ^ 60 - (2 ^ 60 * lo + 198 * hi)) m 99 (lit< tt) (lit≤ tt) few gap (lit≤ tt) in
    omega (arith, top)

-- a number with a factor may be divided by it
small-end : (e m hi : ℕ) → m ≤ 99 → (hi + 40 * e) * 10000 ^ m ≤ 48 * e * 10257 ^ m → hi ≤ 560 * e
small-end e m hi few bound =
    let numbers : 48 * 10257 ^ 99 ≤ 600 * 10000 ^ 99 = lit≤ tt in
    let scaled : e * (48 * 10257 ^ 99) ≤ e * (600 * 10000 ^ 99) = mul-le-mul_left e numbers in
    let top : hi + 40 * e ≤ 600 * e
    = bound-end 10000 10257 (48 * e) (600 * e) (hi + 40 * e) m 99 (lit< tt) (lit≤ tt) few bound (omega (arith, scaled)) in
    omega (arith, top)

pub sum-narrow : (e t v m lo hi : ℕ) → m ≤ 99 → IsSum e t v m lo hi → IsNarrow e lo hi
sum-narrow e t v m lo hi few sum = record { small = small-end e m hi few sum.bound; narrow = narrow-end m lo hi few sum.narrow }
