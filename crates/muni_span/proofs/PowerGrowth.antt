-- Greater numbers have greater powers, rounded alike.
use Rattle.std.proofs.Common.{◌≡◌, ℕ, suc, zero, ◌+◌, ◌*◌, ◌/◌, ◌^◌, ◌≤◌, ⊎_elim, arith, lit<}
use Rattle.std.proofs.Math.Nat.{mul-le-mul}
use Rattle.muni_span.specs.Powers.{product_end, power_from_half, power_by, power_end}
use Rattle.muni_span.proofs.Quotients.{quotient_grows}
use Rattle.muni_span.proofs.Squaring.{even_or_odd, one_or_more, from_half-even, from_half-odd, power_by-first, power_by-none, power_by-more, power_end-some}

product_end-grows : (carry more a b c d : ℕ) → carry ≤ more → a ≤ c → b ≤ d → product_end carry a b ≤ product_end more c d
product_end-grows carry more a b c d up left right =
    let products : a * b ≤ c * d = mul-le-mul left right in
    let quotients : (a * b + carry) / 2 ^ 60 ≤ (c * d + more) / 2 ^ 60
    = quotient_grows (a * b + carry) (c * d + more) (2 ^ 60) (lit< tt) (omega arith) in
    omega arith

at_equal : (a b c d : ℕ) → a ≡ c → b ≡ d → c ≤ d → a ≤ b
at_equal a b c d left right less = rw (left, right) less

pub from_half-grows : (carry more x y k h i : ℕ) → carry ≤ more → x ≤ y → h ≤ i → power_from_half (product_end carry) x k h ≤ power_from_half (product_end more) y k i
from_half-grows carry more x y k h i up less halves =
    let times = product_end carry in
    let over = product_end more in
    let squares : product_end carry h h ≤ product_end more i i = product_end-grows carry more h h i i up halves halves in
    ⊎_elim (λ even. at_equal (power_from_half times x k h) (power_from_half over y k i) (times h h) (over i i)
    (from_half-even times x k h even) (from_half-even over y k i even) squares)
    (λ odd. at_equal (power_from_half times x k h) (power_from_half over y k i) (times (times h h) x) (over (over i i) y)
    (from_half-odd times x k h odd) (from_half-odd over y k i odd) (product_end-grows carry more (times h h) x (over i i) y up squares less))
    (even_or_odd k)

power_by-grows : (carry x y : ℕ) → x ≤ y → (f k : ℕ) → power_by (product_end carry) x f k ≤ power_by (product_end carry) y f k
power_by-grows carry x y less zero k =
    at_equal (power_by (product_end carry) x 0 k) (power_by (product_end carry) y 0 k) x y
    (power_by-none (product_end carry) x k) (power_by-none (product_end carry) y k) less
power_by-grows carry x y less (suc f) k =
    let times = product_end carry in
    ⊎_elim (λ one. at_equal (power_by times x (suc f) k) (power_by times y (suc f) k) x y (power_by-first times x (suc f) k one) (power_by-first times y (suc f) k one) less)
    (λ more. at_equal (power_by times x (suc f) k) (power_by times y (suc f) k)
    (power_from_half times x k (power_by times x f (k / 2))) (power_from_half times y k (power_by times y f (k / 2)))
    (power_by-more times x f k more) (power_by-more times y f k more)
    (from_half-grows carry carry x y k (power_by times x f (k / 2)) (power_by times y f (k / 2)) (omega arith) less (power_by-grows carry x y less f (k / 2))))
    (one_or_more k)

pub power_end-grows : (carry x y k : ℕ) → 1 ≤ k → x ≤ y → power_end carry x k ≤ power_end carry y k
power_end-grows carry x y k some less =
    at_equal (power_end carry x k) (power_end carry y k) (power_by (product_end carry) x 7 k) (power_by (product_end carry) y 7 k)
    (power_end-some carry x k some) (power_end-some carry y k some) (power_by-grows carry x y less 7 k)
