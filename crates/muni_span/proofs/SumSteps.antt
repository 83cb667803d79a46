-- One step of a sum of discounted payments: its ends are multiplied by a discount factor, rounded
-- outward, and a payment is added. Numbers are counted in units of 1 / u.
use Rattle.std.proofs.Common.{◌≡◌, ℕ, ◌+◌, ◌-◌, ◌*◌, ◌^◌, ◌<◌, ◌≤◌, sym, ap, ◌∙◌, ⊎_elim, arith}
use Rattle.std.proofs.Math.Nat.{mul-le-mul, mul-le-mul_left, mul-le-mul_right, le_of_mul-le-mul_right, pow-le-pow_left, one-le-pow}
use Rattle.std.proofs.lemmas.Nat.{pow-add}
use Rattle.muni_span.proofs.PowerWidths.{ordered}

-- the lower end stays below: s is that of the sum t / x so far, r that of the factor h / v, p the product
pub step-below : (u v h c s r p x a t : ℕ) → 0 < u → p * u ≤ s * r → r * v ≤ h * u → s * x ≤ c * t → (p + c * a) * (x * v) ≤ c * (a * (x * v) + h * t)
step-below u v h c s r p x a t pos round factor sum =
    let product : p * u * (x * v) ≤ s * r * (x * v) = mul-le-mul_right (x * v) round in
    let both : s * x * (r * v) ≤ c * t * (h * u) = mul-le-mul sum factor in
    let all : p * (x * v) * u ≤ c * (h * t) * u = omega arith in
    let most : p * (x * v) ≤ c * (h * t) = le_of_mul-le-mul_right all pos in
    omega arith

pub step-above : (u v h c s r p x a t : ℕ) → 0 < u → s * r ≤ p * u → h * u ≤ r * v → c * t ≤ s * x → c * (a * (x * v) + h * t) ≤ (p + c * a) * (x * v)
step-above u v h c s r p x a t pos round factor sum =
    let product : s * r * (x * v) ≤ p * u * (x * v) = mul-le-mul_right (x * v) round in
    let both : c * t * (h * u) ≤ s * x * (r * v) = mul-le-mul sum factor in
    let all : c * (h * t) * u ≤ p * (x * v) * u = omega arith in
    let least : c * (h * t) ≤ p * (x * v) = le_of_mul-le-mul_right all pos in
    omega arith

-- if a factor is at most g / f, an end with a reserve z that pays for each payment grows by that much
pub step-bound : (u f g b s r p a z x y : ℕ) → 0 < u → f * r ≤ g * u → p * u ≤ s * r + u → f * (1 + a + z) ≤ g * z → (s + z) * x ≤ b * y → (p + a + z) * (x * f) ≤ b * (y * g)
step-bound u f g b s r p a z x y pos growth round reserve so_far =
    let one : s * (f * r) ≤ s * (g * u) = mul-le-mul_left s growth in
    let two : f * (p * u) ≤ f * (s * r + u) = mul-le-mul_left f round in
    let three : f * (1 + a + z) * u ≤ g * z * u = mul-le-mul_right u reserve in
    let all : (p + a + z) * f * u ≤ (s + z) * g * u = omega arith in
    let most : (p + a + z) * f ≤ (s + z) * g = le_of_mul-le-mul_right all pos in
    let scaled : (p + a + z) * f * x ≤ (s + z) * g * x = mul-le-mul_right x most in
    let before : (s + z) * x * g ≤ b * y * g = mul-le-mul_right g so_far in
    omega arith

-- a bound after m steps is at most the one after k
pub bound-end : (f g b c s m k : ℕ) → 0 < f → f ≤ g → m ≤ k → s * f ^ m ≤ b * g ^ m → b * g ^ k ≤ c * f ^ k → s ≤ c
bound-end f g b c s m k pos grows few so_far end =
    let steps : m + (k - m) ≡ k = omega arith in
    let left : f ^ m * f ^ (k - m) ≡ f ^ k = sym (pow-add f m (k - m)) ∙ ap (λ n. f ^ n) steps in
    let right : g ^ m * g ^ (k - m) ≡ g ^ k = sym (pow-add g m (k - m)) ∙ ap (λ n. g ^ n) steps in
    let rest : f ^ (k - m) ≤ g ^ (k - m) = pow-le-pow_left grows (k - m) in
    let one : s * f ^ m * f ^ (k - m) ≤ b * g ^ m * g ^ (k - m) = mul-le-mul so_far rest in
    let split : s * (f ^ m * f ^ (k - m)) ≤ b * (g ^ m * g ^ (k - m)) = omega arith in
    let two : s * f ^ k ≤ b * g ^ k = rw (left, right) at split in
    let three : s * f ^ k ≤ c * f ^ k = omega arith in
    le_of_mul-le-mul_right three (one-le-pow k f pos)

-- the width of a rounded product, whose first factor is at most c ones and whose second is e wide
pub product-width : (u lo hi rl rh p q c e : ℕ) → hi ≤ c * u → rh ≤ rl + e → lo ≤ hi → q * u ≤ hi * rh + u → lo * rl ≤ p * u + u → q * u ≤ p * u + c * e * u + rl * (hi - lo) + 2 * u
product-width u lo hi rl rh p q c e top near order up down =
    let split : lo + (hi - lo) ≡ hi = omega arith in
    let wide : hi * rh ≤ hi * (rl + e) = mul-le-mul_left hi near in
    let most : hi * e ≤ c * u * e = mul-le-mul_right e top in
    let times : (lo + (hi - lo)) * rl ≡ hi * rl = ap (λ n. n * rl) split in
    omega arith

pub times-gap : (u p q c : ℕ) → q * u ≤ p * u + c → (q - p) * u ≤ c
times-gap u p q c near =
    ⊎_elim (λ (less : q ≤ p). let none : q - p ≡ 0 = omega arith in rw none (omega arith))
    (λ (more : p ≤ q). let split : p + (q - p) ≡ q = omega arith in
    let times : (p + (q - p)) * u ≡ q * u = ap (λ n. n * u) split in omega arith)
    (ordered q p)

-- so a width with a reserve z grows like an end
pub width-step : (f g b lo hi p q z u rl c x y : ℕ) → 0 < u → f * rl ≤ g * u → q * u ≤ p * u + c * u + rl * (hi - lo) → f * (c + z) ≤ g * z → (hi - lo + z) * x ≤ b * y → (q - p + z) * (x * f) ≤ b * (y * g)
width-step f g b lo hi p q z u rl c x y pos growth width reserve so_far =
    let less : (q - p) * u ≤ c * u + rl * (hi - lo) = times-gap u p q (c * u + rl * (hi - lo)) (omega arith) in
    let one : f * rl * (hi - lo) ≤ g * u * (hi - lo) = mul-le-mul_right (hi - lo) growth in
    let two : f * ((q - p) * u) ≤ f * (c * u + rl * (hi - lo)) = mul-le-mul_left f less in
    let three : f * (c + z) * u ≤ g * z * u = mul-le-mul_right u reserve in
    let all : (q - p + z) * f * u ≤ (hi - lo + z) * g * u = omega arith in
    let most : (q - p + z) * f ≤ (hi - lo + z) * g = le_of_mul-le-mul_right all pos in
    let scaled : (q - p + z) * f * x ≤ (hi - lo + z) * g * x = mul-le-mul_right x most in
    let before : (hi - lo + z) * x * g ≤ b * y * g = mul-le-mul_right g so_far in
    omega arith
