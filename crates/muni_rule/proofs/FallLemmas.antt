-- The price of one payment to come falls as the yield rises.
use Rattle.std.proofs.Common.{ℕ, suc, ◌+◌, ◌*◌, ◌<◌, ◌≤◌, ℤ, pos, negsuc, ◌+ℤ◌, ◌*ℤ◌, ◌<ℤ◌, arith}
use Rattle.std.proofs.Math.Nat.{mul-le-mul_left}
use Rattle.std.proofs.lemmas.Int.{ints}
use Rattle.muni_rule.specs.SinglePayment.{SinglePayment, growth, AtLeast, More}
use Rattle.muni_rule.specs.PrintedYield.{Falls}

-- a factor above 0 keeps a strict order
mul-lt : (factor : ℕ) (x y : ℤ) → 0 < factor → x <ℤ y → (pos factor *ℤ x) <ℤ (pos factor *ℤ y)
mul-lt factor (pos m) (pos n) above less = let p : factor * (m + 1) ≤ factor * n = mul-le-mul_left factor (omega (arith, ints)) in omega (arith, ints)
mul-lt factor (pos m) (negsuc n) above less = absurd (omega (arith, ints))
mul-lt factor (negsuc m) (pos n) above less = let p : factor * 1 ≤ factor * suc m = mul-le-mul_left factor (omega arith) in omega (arith, ints)
mul-lt factor (negsuc m) (negsuc n) above less = let p : factor * (suc n + 1) ≤ factor * suc m = mul-le-mul_left factor (omega (arith, ints)) in omega (arith, ints)

mul-lt-signed : (factor x y : ℤ) → pos 0 <ℤ factor → x <ℤ y → (factor *ℤ x) <ℤ (factor *ℤ y)
mul-lt-signed (pos factor) x y above less = mul-lt factor x y (omega (arith, ints)) less
mul-lt-signed (negsuc factor) x y above less = absurd (omega (arith, ints))

growth-lt : (payment : SinglePayment) (y z : ℤ) → pos 0 <ℤ payment.left → y <ℤ z → growth payment y <ℤ growth payment z
growth-lt payment y z left less =
    let p = mul-lt-signed payment.left y z left less in
    omega (arith, ints)

pub price_falls : (payment : SinglePayment) (amount : ℤ) → pos 0 <ℤ payment.left → pos 0 <ℤ (amount +ℤ payment.accrued) → Falls (λ y. AtLeast payment y amount) (λ y. More payment y amount)
price_falls payment amount left above = record {
  more = λ y m. omega (arith, ints);
  lower = λ y z less at.
      let p = mul-lt-signed (amount +ℤ payment.accrued) (growth payment y) (growth payment z) above (growth-lt payment y z left less) in
      omega (arith, ints);
}
