-- Powers by squaring: a power from that of half its exponent, whatever a product rounds to.
use Rattle.std.proofs.Common.{◌≡◌, ℕ, suc, zero, ◌+◌, ◌-◌, ◌*◌, ◌/◌, ◌%◌, ◌^◌, ◌<◌, ◌≤◌, ◌≢◌, ◌⊎◌, refl, sym, ap, ◌∙◌, subst, arith, true, false, eqb, leb}
use Rattle.std.proofs.Math.Nat.{pow-suc}
use Rattle.std.proofs.lemmas.Bool.Decides.{nat_tests}
use Rattle.std.proofs.lemmas.Nat.{shr-shr, pow_pos}
use Rattle.muni_span.specs.Powers.{product_end, power_from_half, power_by, power_end}
use Rattle.muni_span.proofs.Quotients.{quotient_is}

pub even_or_odd : (k : ℕ) → (k % 2 ≡ 0) ⊎ (k % 2 ≢ 0)
even_or_odd k = grind arith

pub one_or_more : (k : ℕ) → (k ≤ 1) ⊎ (2 ≤ k)
one_or_more k = grind arith

pub from_half-even : (times : ℕ → ℕ → ℕ) (x k half : ℕ) → k % 2 ≡ 0 → power_from_half times x k half ≡ times half half
from_half-even times x k half even = let t : eqb (k % 2) 0 ≡ true = grind (arith, nat_tests) in rw t refl

pub from_half-odd : (times : ℕ → ℕ → ℕ) (x k half : ℕ) → k % 2 ≢ 0 → power_from_half times x k half ≡ times (times half half) x
from_half-odd times x k half odd = let t : eqb (k % 2) 0 ≡ false = grind (arith, nat_tests) in rw t refl

pub power_by-first : (times : ℕ → ℕ → ℕ) (x f k : ℕ) → k ≤ 1 → power_by times x f k ≡ x
unfolding power_by
power_by-first times x zero k one = refl
power_by-first times x (suc f) k one = let t : leb k 1 ≡ true = grind (arith, nat_tests) in rw t refl

pub power_by-none : (times : ℕ → ℕ → ℕ) (x k : ℕ) → power_by times x 0 k ≡ x
unfolding power_by
power_by-none times x k = refl

pub power_by-more : (times : ℕ → ℕ → ℕ) (x f k : ℕ) → 2 ≤ k → power_by times x (suc f) k ≡ power_from_half times x k (power_by times x f (k / 2))
unfolding power_by
power_by-more times x f k more = let t : leb k 1 ≡ false = grind (arith, nat_tests) in rw t refl

-- `power` is the power with exponent k, whatever number of steps above its places is allowed
pub record IsPowerOf (times : ℕ → ℕ → ℕ) (x k power : ℕ) : Type 0 where
  pub some : 1 ≤ k
  pub value : (f : ℕ) → k < 2 ^ suc f → power ≡ power_by times x f k

-- the topmost place alone has the exponent 1, and the power is the base
pub first_place : (times : ℕ → ℕ → ℕ) (x n place : ℕ) → 2 ^ place ≤ n → n < 2 * 2 ^ place → IsPowerOf times x (n / 2 ^ place) x
first_place times x n place least most =
    let one : n / 2 ^ place ≡ 1 = quotient_is n (2 ^ place) 1 (pow_pos place) (omega arith) (omega arith) in
    record { some = omega arith; value = λ f few. sym (power_by-first times x f (n / 2 ^ place) (omega arith)) }

next_value : (times : ℕ → ℕ → ℕ) (x k half : ℕ) → IsPowerOf times x (k / 2) half → (f : ℕ) → k < 2 ^ suc f → power_from_half times x k half ≡ power_by times x f k
next_value times x k half is zero few =
    let two : 2 ^ suc 0 ≡ 2 = refl in
    let some : 1 ≤ k / 2 = is.some in
    absurd (omega arith)
next_value times x k half is (suc f) few =
    let double : 2 ^ suc (suc f) ≡ 2 ^ suc f * 2 = pow-suc 2 (suc f) in
    let some : 1 ≤ k / 2 = is.some in
    ap (power_from_half times x k) (is.value f (omega arith)) ∙ sym (power_by-more times x f k (omega arith))

-- one place more: the power of the exponent's places so far, from that of all but the last
pub next_place : (times : ℕ → ℕ → ℕ) (x n place half : ℕ) → 0 < place → IsPowerOf times x (n / 2 ^ place) half → IsPowerOf times x (n / 2 ^ (place - 1)) (power_from_half times x (n / 2 ^ (place - 1)) half)
next_place times x n place half pos is =
    let one : place - 1 + 1 ≡ place = omega arith in
    let halved : n / 2 ^ (place - 1) / 2 ≡ n / 2 ^ place = shr-shr n (place - 1) 1 ∙ ap (λ i. n / 2 ^ i) one in
    let reached : IsPowerOf times x (n / 2 ^ (place - 1) / 2) half = subst (λ (i : ℕ). IsPowerOf times x i half) (sym halved) is in
    let some : 1 ≤ n / 2 ^ (place - 1) / 2 = reached.some in
    record { some = omega arith; value = next_value times x (n / 2 ^ (place - 1)) half reached }

-- with all places the exponent is whole
pub last_place : (carry x n place power : ℕ) → n < 256 → place ≡ 0 → IsPowerOf (product_end carry) x (n / 2 ^ place) power → power ≡ power_end carry x n
unfolding power_end
last_place carry x n place power few last is =
    let whole : n / 2 ^ place ≡ n = rw last (omega arith) in
    let done : IsPowerOf (product_end carry) x n power = subst (λ (k : ℕ). IsPowerOf (product_end carry) x k power) whole is in
    let some : 1 ≤ n = done.some in
    let t : eqb n 0 ≡ false = grind (arith, nat_tests) in
    rw t (done.value 7 few)

pub power_end-none : (carry x : ℕ) → power_end carry x 0 ≡ 2 ^ 60
unfolding power_end
power_end-none carry x = refl

pub power_end-some : (carry x k : ℕ) → 1 ≤ k → power_end carry x k ≡ power_by (product_end carry) x 7 k
unfolding power_end
power_end-some carry x k some = let t : eqb k 0 ≡ false = grind (arith, nat_tests) in rw t refl
