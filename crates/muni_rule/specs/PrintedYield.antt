-- Which yield is printed at a traded price (MSRB Rule G-33(b)(ii), to the accuracy of this desk), where
-- `AtLeast` tells the yields at which the exact price is at least the traded one, and `More` those at
-- which it is more.
-- Yields are in 10^-6, printed ones in 10^-5.
use Rattle.std.specs.Prelude.{◌≡◌, ℕ, zero, suc, ◌+◌, ◌⊎◌, ℤ, pos, negsuc, neg_ℤ, ◌+ℤ◌, ◌-ℤ◌, ◌*ℤ◌, ◌<ℤ◌, ◌↔◌}
use Rattle.muni_rule.specs.Accuracy.{rounded_yield}
use Rattle.muni_rule.specs.SinglePayment.{SinglePayment, AtLeast, More}

-- where the yields that are printed as t begin, and those that are printed as t - 1 end
abbrev pub boundary : ℤ → ℤ
boundary t = (t *ℤ pos 10) -ℤ pos 5

-- The yield is printed as t or more. A yield on the boundary is, for t above zero; below, where
-- yields are rounded by their magnitude, it has to be past the boundary.
abbrev pub Reached : (AtLeast More : ℤ → Type 0) → ℤ → Type 0
Reached AtLeast More (pos zero) = More (boundary (pos zero))
Reached AtLeast More (pos (suc less)) = AtLeast (boundary (pos (suc less)))
Reached AtLeast More (negsuc less) = More (boundary (negsuc less))

-- the yield is printed as t: as t or more, and not as t + 1 or more
pub record IsPrintedYield (AtLeast More : ℤ → Type 0) (t : ℤ) : Type 0 where
  pub reached : Reached AtLeast More t
  pub next_not_reached : ¬ (Reached AtLeast More (t +ℤ pos 1))

-- from 0 up: the exact yield is at least y and less than y + 1
pub record IsFromAbove (AtLeast : ℤ → Type 0) (y : ℕ) : Type 0 where
  pub reached : AtLeast (pos y)
  pub next_not_reached : ¬ (AtLeast (pos (y + 1)))

-- from 0 down: it is at most -y and more than -(y + 1)
pub record IsFromBelow (More : ℤ → Type 0) (y : ℕ) : Type 0 where
  pub not_past : ¬ (More (neg_ℤ (pos y)))
  pub past_next : More (neg_ℤ (pos (y + 1)))

-- the exact yield, truncated to four decimals of the percentage, is y: its magnitude is truncated
abbrev pub TruncatesYieldTo : (AtLeast More : ℤ → Type 0) → ℤ → Type 0
TruncatesYieldTo AtLeast More (pos y) = IsFromAbove AtLeast y ⊎ ((y ≡ 0) × IsFromBelow More y)
TruncatesYieldTo AtLeast More (negsuc less) = IsFromBelow More (suc less)

-- the price falls as the yield rises
pub record Falls (AtLeast More : ℤ → Type 0) : Type 0 where
  pub more : (y : ℤ) → More y → AtLeast y
  pub lower : (y z : ℤ) → y <ℤ z → AtLeast z → More y

-- The law of one payment to come: where some days are left and the traded price with the accrued
-- interest is above zero, its price falls as the yield rises.
abbrev pub PriceFalls : Type 0
PriceFalls =
    (payment : SinglePayment) (amount : ℤ)
    → pos 0 <ℤ payment.left → pos 0 <ℤ (amount +ℤ payment.accrued)
    → Falls (λ y. AtLeast payment y amount) (λ y. More payment y amount)

-- So at most one yield is printed.
abbrev pub PrintsOneYield : Type 0
PrintsOneYield =
    (payment : SinglePayment) (amount s t : ℤ)
    → pos 0 <ℤ payment.left → pos 0 <ℤ (amount +ℤ payment.accrued)
    → IsPrintedYield (λ y. AtLeast payment y amount) (λ y. More payment y amount) s
    → IsPrintedYield (λ y. AtLeast payment y amount) (λ y. More payment y amount) t
    → s ≡ t

-- And printing is truncating the exact yield to four decimals of the percentage, and rounding that.
abbrev pub PrintsRounded : Type 0
PrintsRounded =
    (payment : SinglePayment) (amount y t : ℤ)
    → pos 0 <ℤ payment.left → pos 0 <ℤ (amount +ℤ payment.accrued)
    → TruncatesYieldTo (λ z. AtLeast payment z amount) (λ z. More payment z amount) y
    → IsPrintedYield (λ z. AtLeast payment z amount) (λ z. More payment z amount) t
    ↔ (t ≡ rounded_yield y)
