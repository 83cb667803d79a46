-- A comparison of whole numbers as one of amounts.
use Rattle.std.proofs.Common.{◌≡◌, ℕ, ◌+◌, ◌*◌, ◌≤◌, Bool, subst, arith, ℤ, pos}
use Rattle.std.specs.Prelude.{IsTrue, ◌↔◌, ◌+ℤ◌, ◌*ℤ◌, ◌≤ℤ◌}
use Rattle.std.proofs.lemmas.Int.{ints}

whole-reached : (due accrued growth one amount : ℕ) (test : Bool) → IsTrue test ↔ ((amount + accrued) * growth ≤ due * one)
    → IsTrue test ↔ (((pos amount +ℤ pos accrued) *ℤ pos growth) ≤ℤ (pos due *ℤ pos one))
whole-reached due accrued growth one amount test both = (λ yes. (let le = both.0 yes in omega (arith, ints, le)), λ le. both.1 (omega (arith, ints, le)))

pub amount-reached : (due accrued growth one amount : ℕ) (due_z accrued_z growth_z one_z amount_z : ℤ) (test : Bool) → pos due ≡ due_z → pos accrued ≡ accrued_z → pos growth ≡ growth_z → pos one ≡ one_z → pos amount ≡ amount_z
    → IsTrue test ↔ ((amount + accrued) * growth ≤ due * one)
    → IsTrue test ↔ (((amount_z +ℤ accrued_z) *ℤ growth_z) ≤ℤ (due_z *ℤ one_z))
amount-reached due accrued growth one amount due_z accrued_z growth_z one_z amount_z test due_is accrued_is growth_is one_is amount_is both =
    subst (λ z. IsTrue test ↔ (((amount_z +ℤ accrued_z) *ℤ growth_z) ≤ℤ (z *ℤ one_z))) due_is
    (subst (λ z. IsTrue test ↔ (((amount_z +ℤ z) *ℤ growth_z) ≤ℤ (pos due *ℤ one_z))) accrued_is
    (subst (λ z. IsTrue test ↔ (((amount_z +ℤ pos accrued) *ℤ z) ≤ℤ (pos due *ℤ one_z))) growth_is
    (subst (λ z. IsTrue test ↔ (((amount_z +ℤ pos accrued) *ℤ pos growth) ≤ℤ (pos due *ℤ z))) one_is
    (subst (λ z. IsTrue test ↔ (((z +ℤ pos accrued) *ℤ pos growth) ≤ℤ (pos due *ℤ pos one))) amount_is
    (whole-reached due accrued growth one amount test both)))))
