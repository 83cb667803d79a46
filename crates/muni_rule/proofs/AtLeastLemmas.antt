-- A price that is at least an amount is at least each smaller one.
use Rattle.std.proofs.Common.{ℕ, suc, ◌+◌, ◌-◌, ◌*◌, ◌^◌, ◌≤◌, length, ℤ, pos, negsuc, ◌+ℤ◌, ◌*ℤ◌, ◌≤ℤ◌, ◌<ℤ◌, arith}
use Rattle.std.proofs.Math.Nat.{mul-le-mul_right, pow-le-pow_left}
use Rattle.std.proofs.lemmas.Int.{ints}
use Rattle.muni_rule.specs.Printed.{IsClosed}
use Rattle.muni_rule.specs.SinglePayment.{SinglePayment, growth, AtLeast}
use Rattle.muni_rule.specs.ManyPeriods as many
use Rattle.muni_rule.specs.ManyPeriods.{PeriodicPayments, discount_divisor, DirtyAtLeast}

-- a factor from 0 up keeps the order
mul-le : (x y : ℤ) (factor : ℕ) → x ≤ℤ y → (x *ℤ pos factor) ≤ℤ (y *ℤ pos factor)
mul-le (pos m) (pos n) factor h = let p : m * factor ≤ n * factor = mul-le-mul_right factor (omega (arith, ints)) in omega (arith, ints)
mul-le (pos m) (negsuc n) factor h = absurd (omega (arith, ints))
mul-le (negsuc m) (pos n) factor h = omega (arith, ints)
mul-le (negsuc m) (negsuc n) factor h = let p : suc n * factor ≤ suc m * factor = mul-le-mul_right factor (omega (arith, ints)) in omega (arith, ints)

mul-le-signed : (x y factor : ℤ) → pos 0 <ℤ factor → x ≤ℤ y → (x *ℤ factor) ≤ℤ (y *ℤ factor)
mul-le-signed x y (pos factor) above h = mul-le x y factor h
mul-le-signed x y (negsuc factor) above h = absurd (omega (arith, ints))

pub AtLeast-smaller : (payment : SinglePayment) (y amount smaller : ℤ) → pos 0 <ℤ growth payment y → smaller ≤ℤ amount → AtLeast payment y amount → AtLeast payment y smaller
AtLeast-smaller payment y amount smaller above less reached =
    let p = mul-le-signed (smaller +ℤ payment.accrued) (amount +ℤ payment.accrued) (growth payment y) above (omega (arith, ints)) in
    omega (arith, ints)

pub AtLeast-closed : (payment : SinglePayment) (y : ℤ) → pos 0 <ℤ growth payment y → IsClosed (AtLeast payment y)
AtLeast-closed payment y above = λ amount smaller less reached. AtLeast-smaller payment y amount smaller above less reached

-- the same of many periods
dirty-smaller : (bond : PeriodicPayments) (y amount smaller : ℤ) → smaller ≤ℤ amount → DirtyAtLeast bond y amount → DirtyAtLeast bond y smaller
dirty-smaller bond y (pos x) (pos z) less reached =
    let order : z ≤ x = omega (arith, ints) in
    let raised : z ^ 180 ≤ x ^ 180 = pow-le-pow_left order 180 in
    let scaled = mul-le-mul_right (discount_divisor y ^ ((length bond.payments - 1) * 180 + (180 - bond.a))) raised in
    let at_least = reached.at_least in
    record { at_least = omega (arith, scaled, at_least) }
dirty-smaller bond y (negsuc x) (pos z) less reached = absurd (omega (arith, ints))
dirty-smaller bond y amount (negsuc z) less reached = tt

pub many-closed : (bond : PeriodicPayments) (y : ℤ) → IsClosed (many.AtLeast bond y)
many-closed bond y = λ amount smaller less reached.
    dirty-smaller bond y (amount +ℤ pos bond.accrued) (smaller +ℤ pos bond.accrued) (omega (arith, ints)) reached
