-- At every yield one price is printed, or the exact price is below zero.
use Rattle.std.proofs.Common.{◌≡◌, ℕ, suc, ◌+◌, ◌-◌, ◌*◌, ◌^◌, ◌<◌, ◌≤◌, length, ◌⊎◌, ⊎_elim, inl, inr, ℤ, pos, negsuc, ◌+ℤ◌, ◌*ℤ◌, ◌≤ℤ◌, ◌<ℤ◌, refl, sym, subst, arith}
use Rattle.std.specs.Prelude.{unsigned_abs}
use Rattle.std.proofs.Math.Nat.{mul-le-mul_left, mul-le-mul_right, one-le-pow, pow-suc}
use Rattle.std.proofs.lemmas.Bool.{cases_lt}
use Rattle.std.proofs.lemmas.Int.{ints}
use Rattle.muni_rule.specs.Accuracy.{thousandths, thousandths_by}
use Rattle.muni_rule.specs.DayCount.{year_of}
use Rattle.muni_rule.specs.declared.basis.Basis.{Basis}
use Rattle.muni_rule.specs.declared.basis.Basis.TheVariants.{Thirty360, Actual365}
use Rattle.muni_rule.specs.ManyPeriods as many
use Rattle.muni_rule.specs.ManyPeriods.{PeriodicPayments, discount_divisor, worth_power}
use Rattle.muni_rule.specs.PriceLaws.{OnePaymentHasOnePrice, ManyPeriodsHaveOnePrice}
use Rattle.muni_rule.specs.Printed.{IsPrintedPriceBy, IsBelowZero, IsClosed, HasOnePriceBy}
use Rattle.muni_rule.specs.SinglePayment.{SinglePayment, no_growth, growth, AtLeast}
use Rattle.muni_rule.proofs.AtLeastLemmas.{AtLeast-closed, many-closed}
use Rattle.muni_rule.proofs.ManyPeriodFallLemmas.{at_least-decided}
use Rattle.muni_rule.proofs.OutcomeLemmas.{Decided, stops}

-- thousandths rise
thousandths-rise : (basis : Basis) (s t : ℕ) → s ≤ t → thousandths_by basis s ≤ℤ thousandths_by basis t
thousandths-rise Thirty360 s t order = omega (arith, ints)
thousandths-rise Actual365 s t order = omega (arith, ints)

pub thousandths-from : (basis : Basis) (t : ℕ) → pos 0 ≤ℤ thousandths_by basis t
thousandths-from Thirty360 t = omega (arith, ints)
thousandths-from Actual365 t = omega (arith, ints)

-- at most one price is printed
pub printed-one : (basis : Basis) (Reaches : ℤ → Type 0) (s t : ℕ) → IsClosed Reaches → IsPrintedPriceBy basis Reaches s → IsPrintedPriceBy basis Reaches t → s ≡ t
printed-one basis Reaches s t closed is also =
    ⊎_elim
    (λ (less : s < t). absurd (is.next_not_reached (closed (thousandths_by basis t) (thousandths_by basis (s + 1)) (thousandths-rise basis (s + 1) t (omega arith)) also.reached)))
    (λ (most : t ≤ s). ⊎_elim
    (λ (more : t < s). absurd (also.next_not_reached (closed (thousandths_by basis s) (thousandths_by basis (t + 1)) (thousandths-rise basis (t + 1) s (omega arith)) is.reached)))
    (λ (least : s ≤ t). omega arith)
    (cases_lt t s))
    (cases_lt s t)

-- and none if the exact price is below zero
pub printed-not_below : (basis : Basis) (Reaches : ℤ → Type 0) (t : ℕ) → IsClosed Reaches → IsPrintedPriceBy basis Reaches t → ¬ (IsBelowZero Reaches)
printed-not_below basis Reaches t closed printed = λ below.
    below.zero_not_reached (closed (thousandths_by basis t) (pos 0) (thousandths-from basis t) printed.reached)

-- no thousandths are nothing
thousandths-none : (basis : Basis) → thousandths_by basis 0 ≡ pos 0
thousandths-none Thirty360 = refl
thousandths-none Actual365 = refl

-- if some amount is not reached, the thousandths that are reached end somewhere
some-price : (basis : Basis) (Reaches : ℤ → Type 0) (m : ℕ) → ((amount : ℤ) → Decided (Reaches amount)) → ¬ (Reaches (thousandths_by basis m)) → IsBelowZero Reaches ⊎ ((t : ℕ) × IsPrintedPriceBy basis Reaches t)
some-price basis Reaches m decided missed =
    ⊎_elim
    (λ (first : Reaches (thousandths_by basis 0)).
    let stop = stops (λ t. Reaches (thousandths_by basis t)) (λ t. decided (thousandths_by basis t)) m first missed in
    let next : suc stop.0 ≡ stop.0 + 1 = omega arith in
    inr (
      stop.0,
      record {
        reached = stop.1.here;
        next_not_reached = subst (λ t. ¬ (Reaches (thousandths_by basis t))) next stop.1.not_next;
      },
    ))
    (λ (none : ¬ (Reaches (thousandths_by basis 0))). inl (record { zero_not_reached = λ reached. none (subst Reaches (sym (thousandths-none basis)) reached) }))
    (decided (thousandths_by basis 0))

one_price : (basis : Basis) (Reaches : ℤ → Type 0) (m : ℕ) → IsClosed Reaches → ((amount : ℤ) → Decided (Reaches amount)) → ¬ (Reaches (thousandths_by basis m)) → HasOnePriceBy basis Reaches
one_price basis Reaches m closed decided missed = record {
  some = some-price basis Reaches m decided missed;
  one_is_printed = λ s t is also. printed-one basis Reaches s t closed is also;
  none_below_zero = λ t is. printed-not_below basis Reaches t closed is;
}

-- ---- one payment to come
le-decided : (x y : ℤ) → Decided (x ≤ℤ y)
le-decided (pos m) (pos n) = elim (cases_lt n m) [ inl less ↦ inr (λ order. omega (arith, ints)) | inr order ↦ inl (omega (arith, ints)) ]
le-decided (pos m) (negsuc n) = inr (λ order. omega (arith, ints))
le-decided (negsuc m) (pos n) = inl (omega (arith, ints))
le-decided (negsuc m) (negsuc n) = elim (cases_lt m n) [ inl less ↦ inr (λ order. omega (arith, ints)) | inr order ↦ inl (omega (arith, ints)) ]

-- a product with a factor from 1 up is not smaller
mul-from : (x factor : ℤ) → pos 0 ≤ℤ x → pos 0 <ℤ factor → x ≤ℤ (x *ℤ factor)
mul-from (pos x) (pos factor) from above = let times : x * 1 ≤ x * factor = mul-le-mul_left x (omega (arith, ints, above)) in omega (arith, ints, times)
mul-from (pos x) (negsuc factor) from above = absurd (omega (arith, ints, above))
mul-from (negsuc x) factor from above = absurd (omega (arith, ints, from))

-- a price that is past the amount of a payment, with its accrued interest
abbrev past_due : Basis → ℤ → ℤ → ℤ
past_due basis due accrued = thousandths_by basis (unsigned_abs due + unsigned_abs accrued + 1) +ℤ accrued

past_due-more : (basis : Basis) (due accrued : ℤ) → (due *ℤ pos (year_of basis * 1000000)) <ℤ past_due basis due accrued
past_due-more Thirty360 due accrued = omega (arith, ints)
past_due-more Actual365 due accrued = omega (arith, ints)

past_due-from : (basis : Basis) (due accrued : ℤ) → pos 0 ≤ℤ past_due basis due accrued
past_due-from Thirty360 due accrued = omega (arith, ints)
past_due-from Actual365 due accrued = omega (arith, ints)

no_circle : (x y z : ℤ) → x ≤ℤ y → y ≤ℤ z → z <ℤ x → ⊥
no_circle x y z one two three = omega (arith, ints)

-- one payment does not reach it
single-missed : (payment : SinglePayment) (y : ℤ) → pos 0 <ℤ growth payment y → ¬ (AtLeast payment y (thousandths_by payment.basis (unsigned_abs payment.due + unsigned_abs payment.accrued + 1)))
single-missed payment y above reached =
    let x = past_due payment.basis payment.due payment.accrued in
    no_circle x (x *ℤ growth payment y) (payment.due *ℤ no_growth payment)
    (mul-from x (growth payment y) (past_due-from payment.basis payment.due payment.accrued) above)
    reached
    (past_due-more payment.basis payment.due payment.accrued)

pub one_payment-price : OnePaymentHasOnePrice
one_payment-price payment y above =
    one_price payment.basis (AtLeast payment y) (unsigned_abs payment.due + unsigned_abs payment.accrued + 1) (AtLeast-closed payment y above)
    (λ amount. le-decided ((amount +ℤ payment.accrued) *ℤ growth payment y) (payment.due *ℤ no_growth payment))
    (single-missed payment y above)

-- ---- many periods
power-from : (x v e : ℕ) → 1 ≤ x → 1 ≤ v → x ≤ x ^ 180 * v ^ e
power-from x v e some divides =
    let powers : 1 ≤ x ^ 179 = one-le-pow 179 x some in
    let others : 1 ≤ v ^ e = one-le-pow e v divides in
    let times : 1 * x ≤ x ^ 179 * x = mul-le-mul_right x powers in
    let all : x ^ 179 * x * 1 ≤ x ^ 179 * x * v ^ e = mul-le-mul_left (x ^ 179 * x) others in
    rw (pow-suc x 179) (omega (arith, times, all))

-- they do not reach a price past the numerator of their worth
many-missed : (bond : PeriodicPayments) (y : ℤ) → 0 < discount_divisor y → ¬ (many.AtLeast bond y (thousandths (worth_power bond y + 1)))
many-missed bond y above reached =
    let at_least = reached.at_least in
    let least = power-from (360000000 * (worth_power bond y + 1) + bond.accrued) (discount_divisor y) ((length bond.payments - 1) * 180 + (180 - bond.a)) (omega arith) (omega (arith, above)) in
    omega (arith, at_least, least)

pub many_periods-price : ManyPeriodsHaveOnePrice
many_periods-price bond y above =
    one_price Thirty360 (many.AtLeast bond y) (worth_power bond y + 1) (many-closed bond y) (λ amount. at_least-decided bond y amount) (many-missed bond y above)
