-- Floors and ceilings of quotients.
use Rattle.std.proofs.Common.{◌≡◌, ℕ, suc, ◌+◌, ◌-◌, ◌*◌, ◌/◌, ◌%◌, ◌<◌, ◌≤◌, ap, ◌∙◌, ◌^◌, sym, subst, arith, lit<}
use Rattle.std.proofs.Math.Nat.{div-mul-le_self, lt-div-mul-add, lt_of_mul-lt-mul_right, div-add-mod', add-mul-div_right}
use Rattle.std.proofs.lemmas.Nat.{div_below}

-- the floor of p / u and the ceiling of q / u
pub record IsRounded (u p q floor ceiling : ℕ) : Type 0 where
  pub floor_under : floor * u ≤ p
  pub floor_near : p ≤ floor * u + u
  pub ceiling_over : q ≤ ceiling * u
  pub ceiling_near : ceiling * u < q + u

pub rounded : (u p q : ℕ) → 0 < u → IsRounded u p q ((p + 0) / u) ((q + (u - 1)) / u)
rounded u p q pos =
    let one : (p + 0) / u * u ≤ p + 0 = div-mul-le_self (p + 0) u in
    let two : p + 0 < (p + 0) / u * u + u = lt-div-mul-add pos in
    let three : q + (u - 1) < (q + (u - 1)) / u * u + u = lt-div-mul-add pos in
    let four : (q + (u - 1)) / u * u ≤ q + (u - 1) = div-mul-le_self (q + (u - 1)) u in
    record { floor_under = omega arith; floor_near = omega arith; ceiling_over = omega arith; ceiling_near = omega arith }

-- greater numbers have greater quotients
pub quotient_grows : (a b u : ℕ) → 0 < u → a ≤ b → a / u ≤ b / u
quotient_grows a b u pos less =
    let under : a / u * u ≤ a = div-mul-le_self a u in
    let over : b < b / u * u + u = lt-div-mul-add pos in
    let both : a / u * u < suc (b / u) * u = omega arith in
    let below : a / u < suc (b / u) = lt_of_mul-lt-mul_right u both in
    omega arith

-- the quotient is the one number between whose multiples the dividend lies
pub quotient_is : (x d q : ℕ) → 0 < d → q * d ≤ x → x < (q + 1) * d → x / d ≡ q
quotient_is x d q pos least most =
    let under : x / d * d ≤ x = div-mul-le_self x d in
    let over : x < x / d * d + d = lt-div-mul-add pos in
    let one : x / d * d < (q + 1) * d = omega arith in
    let two : q * d < (x / d + 1) * d = omega arith in
    let below : x / d < q + 1 = lt_of_mul-lt-mul_right d one in
    let above : q < x / d + 1 = lt_of_mul-lt-mul_right d two in
    omega arith

-- the ceiling is one above the floor if something is left over
pub ceiling_more : (x d q : ℕ) → 0 < d → q ≡ x / d → q * d < x → q + 1 ≡ (x + (d - 1)) / d
ceiling_more x d q pos floor part =
    let over : x < x / d * d + d = lt-div-mul-add pos in
    let product : q * d ≡ x / d * d = ap (λ n. n * d) floor in
    sym (quotient_is (x + (d - 1)) d (q + 1) pos (omega arith) (omega arith))

-- the floor and the ceiling, with no carry written for the floor
pub rounded_plain : (u p q l h : ℕ) → 0 < u → l ≡ p / u → h ≡ (q + (u - 1)) / u → IsRounded u p q l h
rounded_plain u p q l h pos low high =
    let none : p + 0 ≡ p = omega arith in
    rw (low, high) (subst (λ (x : ℕ). IsRounded u p q (x / u) ((q + (u - 1)) / u)) none (rounded u p q pos))

-- a quotient by w of a product, if only the part of the factor below t * w leaves a rest
pub by_halves : (t w a f e : ℕ) → 0 < w → a / (t * w) * f * t + (a % (t * w) * f + e) / w ≡ (a * f + e) / w
by_halves t w a f e pos =
    let whole : a / (t * w) * (t * w) + a % (t * w) ≡ a = div-add-mod' a (t * w) in
    let times : (a / (t * w) * (t * w) + a % (t * w)) * f ≡ a * f = ap (λ x. x * f) whole in
    let parts : a * f + e ≡ a % (t * w) * f + e + a / (t * w) * f * t * w = omega arith in
    let quotient : (a * f + e) / w ≡ (a % (t * w) * f + e) / w + a / (t * w) * f * t
    = ap (λ x. x / w) parts ∙ add-mul-div_right (a % (t * w) * f + e) (a / (t * w) * f * t) pos in
    omega (arith, quotient)

-- a scaled amount below 2^127 fits, rounded up too
pub scaled_fits : (p e : ℕ) → p < 2 ^ 187 → e < 2 ^ 60 → (p + e) / 2 ^ 60 < 2 ^ 127 + 1
scaled_fits p e few less = div_below (p + e) (2 ^ 60) (2 ^ 127 + 1) (lit< tt) (omega arith)
