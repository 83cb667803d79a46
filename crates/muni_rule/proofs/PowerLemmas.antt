-- Powers of powers, and the order of powers.
use Rattle.std.proofs.Common.{◌≡◌, ℕ, suc, zero, ◌+◌, ◌*◌, ◌^◌, ◌<◌, ◌≤◌, ◌≢◌, refl, sym, ap, ◌∙◌, ⊎_elim, arith}
use Rattle.std.proofs.Math.Nat.{mul-le-mul_right, le_of_mul-le-mul_left, lt_of_mul-lt-mul_left, mul-lt-mul_of_pos_right, pow-le-pow_left, pow-lt-pow_left, one-le-pow, pow-suc, pow-zero, mul_comm, one-mul}
use Rattle.std.proofs.lemmas.Bool.{cases_lt}
use Rattle.std.proofs.lemmas.Nat.{pow-add, mul-pow}

pub pow-one : (x : ℕ) → x ^ 1 ≡ x
pow-one x = pow-suc x 0 ∙ (ap (λ y. y * x) (pow-zero x) ∙ one-mul x)

pub pow-two : (x : ℕ) → x ^ 2 ≡ x * x
pow-two x = pow-suc x 1 ∙ ap (λ y. y * x) (pow-one x)

pub pow-three : (x : ℕ) → x ^ 3 ≡ x * x * x
pow-three x = pow-suc x 2 ∙ ap (λ y. y * x) (pow-two x)

-- a power of a power
pub pow-times : (x a b : ℕ) → x ^ (a * b) ≡ (x ^ a) ^ b
pow-times x a zero = let none : a * zero ≡ zero = omega arith in rw (none, pow-zero x, pow-zero (x ^ a)) refl
pow-times x a (suc b) =
    let more : a * suc b ≡ a * b + a = omega arith in
    rw (more, pow-add x (a * b) a, pow-suc (x ^ a) b, pow-times x a b) refl

pub pow-turned : (x a b : ℕ) → (x ^ a) ^ b ≡ (x ^ b) ^ a
pow-turned x a b = sym (pow-times x a b) ∙ (ap (λ n. x ^ n) (mul_comm a b) ∙ pow-times x b a)

pub pow-split : (x m k e : ℕ) → x ^ (m * k + e) ≡ (x ^ m) ^ k * x ^ e
pow-split x m k e = pow-add x (m * k) e ∙ ap (λ z. z * x ^ e) (pow-times x m k)

pub one-pow : (k : ℕ) → 1 ^ k ≡ 1
one-pow zero = pow-zero 1
one-pow (suc k) = let less = one-pow k in let more = pow-suc 1 k in omega (arith, less, more)

pub not-zero : ◌≢◌ {A = ℕ} 180 0
not-zero same = cc

-- numbers are in the order of their powers
pub power-order : (a b k : ℕ) → k ≢ 0 → a ^ k ≤ b ^ k → a ≤ b
power-order a b k some order =
    ⊎_elim
    (λ less. let strict : b ^ k < a ^ k = pow-lt-pow_left less some in absurd (omega arith))
    (λ ordered. ordered)
    (cases_lt b a)

-- A fraction t / v whose power is above that of lo / c is above each x with x * c up to lo, and so for
-- the other three orders.
pub reached-power : (c k x lo v t : ℕ) → 0 < c → x * c ≤ lo → lo ^ k * v ≤ c ^ k * t → x ^ k * v ≤ t
reached-power c k x lo v t some over law =
    let raised : (x * c) ^ k ≤ lo ^ k = pow-le-pow_left over k in
    let split : x ^ k * c ^ k ≤ lo ^ k = rw (mul-pow x c k) at raised in
    let times : x ^ k * c ^ k * v ≤ lo ^ k * v = mul-le-mul_right v split in
    let all : c ^ k * (x ^ k * v) ≤ c ^ k * t = omega arith in
    le_of_mul-le-mul_left all (one-le-pow k c some)

pub passed-power : (c k x lo v t : ℕ) → k ≢ 0 → 0 < v → x * c < lo → lo ^ k * v ≤ c ^ k * t → x ^ k * v < t
passed-power c k x lo v t many some over law =
    let raised : (x * c) ^ k < lo ^ k = pow-lt-pow_left over many in
    let split : x ^ k * c ^ k < lo ^ k = rw (mul-pow x c k) at raised in
    let times : x ^ k * c ^ k * v < lo ^ k * v = mul-lt-mul_of_pos_right split some in
    let all : c ^ k * (x ^ k * v) < c ^ k * t = omega arith in
    lt_of_mul-lt-mul_left (c ^ k) all

pub missed-power : (c k x hi v t : ℕ) → k ≢ 0 → 0 < v → hi < x * c → c ^ k * t ≤ hi ^ k * v → t < x ^ k * v
missed-power c k x hi v t many some under law =
    let raised : hi ^ k < (x * c) ^ k = pow-lt-pow_left under many in
    let split : hi ^ k < x ^ k * c ^ k = rw (mul-pow x c k) at raised in
    let times : hi ^ k * v < x ^ k * c ^ k * v = mul-lt-mul_of_pos_right split some in
    let all : c ^ k * t < c ^ k * (x ^ k * v) = omega arith in
    lt_of_mul-lt-mul_left (c ^ k) all

pub not_passed-power : (c k x hi v t : ℕ) → 0 < c → hi ≤ x * c → c ^ k * t ≤ hi ^ k * v → t ≤ x ^ k * v
not_passed-power c k x hi v t some under law =
    let raised : hi ^ k ≤ (x * c) ^ k = pow-le-pow_left under k in
    let split : hi ^ k ≤ x ^ k * c ^ k = rw (mul-pow x c k) at raised in
    let times : hi ^ k * v ≤ x ^ k * c ^ k * v = mul-le-mul_right v split in
    let all : c ^ k * t ≤ c ^ k * (x ^ k * v) = omega arith in
    le_of_mul-le-mul_left all (one-le-pow k c some)

-- if t * h^i / v^(m + i) is top / unit, the same holds of the k-th powers
pub fraction-power : (k h v t m i top unit : ℕ) → t * h ^ i * unit ≡ top * v ^ (m + i) → unit ^ k * (t ^ k * h ^ (i * k)) ≡ top ^ k * v ^ (m * k + i * k)
fraction-power k h v t m i top unit same =
    let raised : (t * h ^ i * unit) ^ k ≡ (top * v ^ (m + i)) ^ k = ap (λ x. x ^ k) same in
    let left : (t * h ^ i * unit) ^ k ≡ t ^ k * (h ^ i) ^ k * unit ^ k = mul-pow (t * h ^ i) unit k ∙ ap (λ x. x * unit ^ k) (mul-pow t (h ^ i) k) in
    let right : (top * v ^ (m + i)) ^ k ≡ top ^ k * (v ^ (m + i)) ^ k = mul-pow top (v ^ (m + i)) k in
    let exponents : m * k + i * k ≡ (m + i) * k = omega arith in
    let all : unit ^ k * (t ^ k * (h ^ i) ^ k) ≡ top ^ k * (v ^ (m + i)) ^ k = omega (arith, raised, left, right) in
    rw (exponents, pow-times h i k, pow-times v (m + i) k) all
