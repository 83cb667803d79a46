-- A truncated yield, found by whole numbers, is shown as the exact outcome.
use Rattle.std.proofs.Common.{◌≡◌, ℕ, suc, zero, ◌+◌, ◌-◌, ◌*◌, ◌/◌, ◌<◌, ◌≤◌, leb, true, false, inl, inr, pos, negsuc, neg_ℤ, ◌+ℤ◌, ◌*ℤ◌, arith, refl, sym, ap, ◌∙◌}
use Rattle.std.proofs.Math.Nat.{mul-add}
use Rattle.std.proofs.lemmas.Bool.{cases_lt}
use Rattle.std.proofs.lemmas.Bool.Decides.{nat_tests}
use Rattle.std.proofs.lemmas.Int.{ints}
use Rattle.muni_rule.specs.DayCount.{year_of}
use Rattle.muni_rule.specs.SinglePayment.{AtLeast, More}
use Rattle.muni_rule.specs.declared.basis.Basis.{Basis}
use Rattle.muni_rule.specs.declared.basis.Basis.TheVariants.{Thirty360, Actual365}
use Rattle.muni_rule.specs.PrintedYield.{IsFromAbove, IsFromBelow, Falls}
use Rattle.muni_rule.proofs.FallLemmas.{price_falls}
use Rattle.muni_rule.proofs.YieldLemmas.{printed-above, printed-below, print-in_range, below-range, above-range}
use Rattle.muni_simple.specs.Yields.{IsYieldAnswer, greatest_printed}
use Rattle.muni_simple.specs.Shown.{natural_payment, shown_above, shown_below}

-- the price of a payment falls
falls_at : (due accrued left amount : ℕ) (basis : Basis) → 0 < left → 0 < amount → Falls (λ y. AtLeast (natural_payment due accrued left basis) y (pos amount)) (λ y. More (natural_payment due accrued left basis) y (pos amount))
falls_at due accrued left amount basis days above = price_falls (natural_payment due accrued left basis) (pos amount) (omega (arith, ints)) (omega (arith, ints))

-- one, as growths are counted
abbrev one : Basis → ℕ
one basis = year_of basis * 1_000_000

-- a gain
from_above : (due accrued left amount y : ℕ) (basis : Basis) → amount + accrued ≤ due → y * ((amount + accrued) * left) ≤ (due - (amount + accrued)) * one basis → (due - (amount + accrued)) * one basis < (y + 1) * ((amount + accrued) * left) → IsFromAbove (λ z. AtLeast (natural_payment due accrued left basis) z (pos amount)) y
from_above due accrued left amount y Thirty360 worth reached next = record {
  reached = omega (arith, ints);
  next_not_reached = λ at. omega (arith, ints);
}
from_above due accrued left amount y Actual365 worth reached next = record {
  reached = omega (arith, ints);
  next_not_reached = λ at. omega (arith, ints);
}

-- a factor over a difference
mul-sub : (x g k : ℕ) → (pos x *ℤ (pos g +ℤ neg_ℤ (pos k))) ≡ pos (x * g) +ℤ neg_ℤ (pos (x * k))
mul-sub x g k =
    elim (cases_lt g k) [
      | inl less ↦
          let over : pos g +ℤ neg_ℤ (pos k) ≡ negsuc (k - g - 1) = omega (arith, ints) in
          let parts : x * suc (k - g - 1) + x * g ≡ x * k = sym (mul-add x (suc (k - g - 1)) g) ∙ ap (λ n. x * n) (omega arith) in
          rw over (omega (arith, ints))
      | inr to ↦
          let rest : pos g +ℤ neg_ℤ (pos k) ≡ pos (g - k) = omega (arith, ints) in
          let parts : x * (g - k) + x * k ≡ x * g = sym (mul-add x (g - k) k) ∙ ap (λ n. x * n) (omega arith) in
          rw rest (omega (arith, ints))
    ]

mul-neg : (left y : ℕ) → (pos left *ℤ neg_ℤ (pos y)) ≡ neg_ℤ (pos (left * y))
mul-neg left zero = let none : left * 0 ≡ 0 = omega arith in rw none refl
mul-neg left (suc y) = omega (arith, ints)

-- what a payment is worth at a yield below zero
pub worth_below : (x g left y : ℕ) → (pos x *ℤ (pos g +ℤ (pos left *ℤ neg_ℤ (pos y)))) ≡ pos (x * g) +ℤ neg_ℤ (pos (x * (left * y)))
worth_below x g left y = rw (mul-neg left y) (mul-sub x g (left * y))

-- a loss
from_below : (due accrued left amount y : ℕ) (basis : Basis) → due < amount + accrued → y * ((amount + accrued) * left) ≤ (amount + accrued - due) * one basis → (amount + accrued - due) * one basis < (y + 1) * ((amount + accrued) * left) → IsFromBelow (λ z. More (natural_payment due accrued left basis) z (pos amount)) y
from_below due accrued left amount y Thirty360 worth reached next =
    let at = worth_below (amount + accrued) 360_000_000 left y in
    let past = worth_below (amount + accrued) 360_000_000 left (y + 1) in
    record {
      not_past = λ more. let m = rw at at more in omega (arith, ints);
      past_next = rw past (omega (arith, ints));
    }
from_below due accrued left amount y Actual365 worth reached next =
    let at = worth_below (amount + accrued) 365_000_000 left y in
    let past = worth_below (amount + accrued) 365_000_000 left (y + 1) in
    record {
      not_past = λ more. let m = rw at at more in omega (arith, ints);
      past_next = rw past (omega (arith, ints));
    }

pub answer-above : (due accrued left amount least y : ℕ) (basis : Basis) → 0 < left → 0 < amount → amount + accrued ≤ due → y * ((amount + accrued) * left) ≤ (due - (amount + accrued)) * one basis → (due - (amount + accrued)) * one basis < (y + 1) * ((amount + accrued) * left) → IsYieldAnswer (neg_ℤ (pos least)) (natural_payment due accrued left basis) (pos amount) (shown_above y)
answer-above due accrued left amount least y basis days above worth reached next =
    let falls = falls_at due accrued left amount basis days above in
    let printed = printed-above falls y ((y + 5) / 10) refl (from_above due accrued left amount y basis worth reached next) in
    elim (cases_lt 999_999 ((y + 5) / 10)) [
      | inl over ↦
          let test : leb ((y + 5) / 10) 999_999 ≡ false = grind (arith, nat_tests) in
          rw test (omega (arith, ints), above-range falls greatest_printed (pos ((y + 5) / 10)) (omega (arith, ints)) printed)
      | inr within ↦
          let test : leb ((y + 5) / 10) 999_999 ≡ true = grind (arith, nat_tests) in
          rw test (omega (arith, ints), print-in_range falls (neg_ℤ (pos least)) greatest_printed (pos ((y + 5) / 10)) (omega (arith, ints)) (omega (arith, ints)) printed)
    ]

pub answer-below : (due accrued left amount least y : ℕ) (basis : Basis) → 0 < left → 0 < amount → due < amount + accrued → y * ((amount + accrued) * left) ≤ (amount + accrued - due) * one basis → (amount + accrued - due) * one basis < (y + 1) * ((amount + accrued) * left) → IsYieldAnswer (neg_ℤ (pos least)) (natural_payment due accrued left basis) (pos amount) (shown_below least y)
answer-below due accrued left amount least y basis days above worth reached next =
    let falls = falls_at due accrued left amount basis days above in
    let printed = printed-below falls y ((y + 5) / 10) refl (from_below due accrued left amount y basis worth reached next) in
    elim (cases_lt least ((y + 5) / 10)) [
      | inl past ↦
          let test : leb ((y + 5) / 10) least ≡ false = grind (arith, nat_tests) in
          rw test (omega (arith, ints), below-range falls (neg_ℤ (pos least)) (neg_ℤ (pos ((y + 5) / 10))) (omega (arith, ints)) printed)
      | inr within ↦
          let test : leb ((y + 5) / 10) least ≡ true = grind (arith, nat_tests) in
          rw test (omega (arith, ints), print-in_range falls (neg_ℤ (pos least)) greatest_printed (neg_ℤ (pos ((y + 5) / 10))) (omega (arith, ints)) (omega (arith, ints)) printed)
    ]
