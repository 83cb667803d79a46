-- If the price falls as the yield rises, the printed yield is the rounded one, and the only one.
use Rattle.std.proofs.Common.{◌≡◌, ℕ, zero, suc, ◌+◌, ◌/◌, ◌⊎◌, inl, inr, ℤ, pos, negsuc, neg_ℤ, ◌+ℤ◌, ◌≤ℤ◌, ◌<ℤ◌, arith, refl, subst, sym}
use Rattle.std.proofs.lemmas.Int.{ints}
use Rattle.std.proofs.lemmas.Bool.{cases_lt}
use Rattle.std.specs.Prelude.{◌↔◌}
use Rattle.muni_rule.specs.Accuracy.{rounded_yield}
use Rattle.muni_rule.specs.PrintedYield.{boundary, Reached, IsPrintedYield, IsFromAbove, IsFromBelow, TruncatesYieldTo, Falls}
use Rattle.muni_rule.specs.Outcomes.{IsBelow, IsAbove, IsPrint}

-- two whole numbers are in order
ordered : (y z : ℤ) → (y <ℤ z) ⊎ ((y ≡ z) ⊎ (z <ℤ y))
ordered (pos m) (pos n) =
    elim (cases_lt m n) [
      | inl less ↦ inl (omega (arith, ints))
      | inr from ↦ elim (cases_lt n m) [
        | inl more ↦ inr (inr (omega (arith, ints)))
        | inr to ↦ inr (inl (omega (arith, ints)))
      ]
    ]
ordered (pos m) (negsuc n) = inr (inr (omega (arith, ints)))
ordered (negsuc m) (pos n) = inl (omega (arith, ints))
ordered (negsuc m) (negsuc n) =
    elim (cases_lt n m) [
      | inl less ↦ inl (omega (arith, ints))
      | inr from ↦ elim (cases_lt m n) [
        | inl more ↦ inr (inr (omega (arith, ints)))
        | inr to ↦ inr (inl (omega (arith, ints)))
      ]
    ]

-- what the price is at a yield, it is at each lower one
AtLeast-le : {AtLeast More : ℤ → Type 0} → Falls AtLeast More → (y z : ℤ) → y ≤ℤ z → AtLeast z → AtLeast y
AtLeast-le {AtLeast} {More} falls y z le at =
    elim (ordered y z) [
      | inl less ↦ falls.more y (falls.lower y z less at)
      | inr (inl same) ↦ subst AtLeast (sym same) at
      | inr (inr more) ↦ absurd (omega (arith, ints))
    ]

More-le : {AtLeast More : ℤ → Type 0} → Falls AtLeast More → (y z : ℤ) → y ≤ℤ z → More z → More y
More-le {AtLeast} {More} falls y z le more =
    elim (ordered y z) [
      | inl less ↦ falls.lower y z less (falls.more z more)
      | inr (inl same) ↦ subst More (sym same) more
      | inr (inr above) ↦ absurd (omega (arith, ints))
    ]

-- a printed yield is reached if the price at its boundary is enough, and then it is
reached-lower : {AtLeast More : ℤ → Type 0} → Falls AtLeast More → (t z : ℤ) → boundary t <ℤ z → AtLeast z → Reached AtLeast More t
reached-lower falls (pos zero) z less at = falls.lower (boundary (pos zero)) z less at
reached-lower falls (pos (suc n)) z less at = falls.more (boundary (pos (suc n))) (falls.lower (boundary (pos (suc n))) z less at)
reached-lower falls (negsuc n) z less at = falls.lower (boundary (negsuc n)) z less at

at-reached : {AtLeast More : ℤ → Type 0} → Falls AtLeast More → (t : ℤ) → Reached AtLeast More t → AtLeast (boundary t)
at-reached falls (pos zero) r = falls.more (boundary (pos zero)) r
at-reached falls (pos (suc n)) r = r
at-reached falls (negsuc n) r = falls.more (boundary (negsuc n)) r

more-reached : (AtLeast More : ℤ → Type 0) (t : ℤ) → t ≤ℤ pos 0 → Reached AtLeast More t → More (boundary t)
more-reached AtLeast More (pos zero) le r = r
more-reached AtLeast More (pos (suc n)) le r = absurd (omega (arith, ints))
more-reached AtLeast More (negsuc n) le r = r

-- each printed yield below a reached one is reached
pub reached-le : {AtLeast More : ℤ → Type 0} → Falls AtLeast More → (s t : ℤ) → s ≤ℤ t → Reached AtLeast More t → Reached AtLeast More s
reached-le {AtLeast} {More} falls s t le r =
    elim (ordered s t) [
      | inl less ↦ reached-lower falls s (boundary t) (omega (arith, ints)) (at-reached falls t r)
      | inr (inl same) ↦ subst (Reached AtLeast More) (sym same) r
      | inr (inr more) ↦ absurd (omega (arith, ints))
    ]

-- so two printed yields are one
pub printed_yield-same : {AtLeast More : ℤ → Type 0} → Falls AtLeast More → (s t : ℤ) → IsPrintedYield AtLeast More s → IsPrintedYield AtLeast More t → s ≡ t
printed_yield-same falls s t one other =
    elim (ordered s t) [
      | inl less ↦ absurd (one.next_not_reached (reached-le falls (s +ℤ pos 1) t (omega (arith, ints)) other.reached))
      | inr (inl same) ↦ same
      | inr (inr more) ↦ absurd (other.next_not_reached (reached-le falls (t +ℤ pos 1) s (omega (arith, ints)) one.reached))
    ]

-- the rounded yield, from 0 up
pub printed-above : {AtLeast More : ℤ → Type 0} → Falls AtLeast More → (y n : ℕ) → n ≡ (y + 5) / 10 → IsFromAbove AtLeast y → IsPrintedYield AtLeast More (pos n)
printed-above {AtLeast} {More} falls y zero is from = record {
  reached = falls.lower (boundary (pos zero)) (pos y) (omega (arith, ints)) from.reached;
  next_not_reached = λ r. from.next_not_reached (AtLeast-le falls (pos (y + 1)) (boundary (pos 1)) (omega (arith, ints)) (at-reached falls (pos 1) r));
}
printed-above {AtLeast} {More} falls y (suc n) is from = record {
  reached = AtLeast-le falls (boundary (pos (suc n))) (pos y) (omega (arith, ints)) from.reached;
  next_not_reached = λ r. from.next_not_reached (AtLeast-le falls (pos (y + 1)) (boundary (pos (suc n) +ℤ pos 1)) (omega (arith, ints)) (at-reached falls (pos (suc n) +ℤ pos 1) r));
}

-- and from 0 down
pub printed-below : {AtLeast More : ℤ → Type 0} → Falls AtLeast More → (y n : ℕ) → n ≡ (y + 5) / 10 → IsFromBelow More y → IsPrintedYield AtLeast More (neg_ℤ (pos n))
printed-below {AtLeast} {More} falls y zero is from = record {
  reached = More-le falls (boundary (pos zero)) (neg_ℤ (pos (y + 1))) (omega (arith, ints)) from.past_next;
  next_not_reached = λ r. from.not_past (falls.lower (neg_ℤ (pos y)) (boundary (pos 1)) (omega (arith, ints)) (at-reached falls (pos 1) r));
}
printed-below {AtLeast} {More} falls y (suc n) is from = record {
  reached = More-le falls (boundary (negsuc n)) (neg_ℤ (pos (y + 1))) (omega (arith, ints)) from.past_next;
  next_not_reached = λ r. from.not_past (More-le falls (neg_ℤ (pos y)) (boundary (negsuc n +ℤ pos 1)) (omega (arith, ints)) (more-reached AtLeast More (negsuc n +ℤ pos 1) (omega (arith, ints)) r));
}

pub printed-rounded : {AtLeast More : ℤ → Type 0} → Falls AtLeast More → (y : ℤ) → TruncatesYieldTo AtLeast More y → IsPrintedYield AtLeast More (rounded_yield y)
printed-rounded falls (pos y) (inl from) = printed-above falls y ((y + 5) / 10) refl from
printed-rounded {AtLeast} {More} falls (pos y) (inr below) =
    let none : (y + 5) / 10 ≡ 0 = omega arith in
    let P : ℕ → Type 0 = λ n. IsPrintedYield AtLeast More (pos n) in
    subst P (sym none) (printed-below falls y 0 (sym none) below.1)
printed-rounded falls (negsuc less) from = printed-below falls (suc less) ((suc less + 5) / 10) refl from

pub printed_yield-rounded : {AtLeast More : ℤ → Type 0} → Falls AtLeast More → (y t : ℤ) → TruncatesYieldTo AtLeast More y → IsPrintedYield AtLeast More t ↔ (t ≡ rounded_yield y)
printed_yield-rounded {AtLeast} {More} falls y t truncated =
    let rounded = printed-rounded falls y truncated in
    (λ printed. printed_yield-same falls t (rounded_yield y) printed rounded, λ same. subst (IsPrintedYield AtLeast More) (sym same) rounded)

-- a printed yield in the range is the outcome
pub print-in_range : {AtLeast More : ℤ → Type 0} → Falls AtLeast More → (least greatest t : ℤ) → least ≤ℤ t → t ≤ℤ greatest → IsPrintedYield AtLeast More t → IsPrint least greatest AtLeast More t
print-in_range falls least greatest t low high printed = record {
  not_below = reached-le falls least t low printed.reached;
  not_above = λ r. printed.next_not_reached (reached-le falls (t +ℤ pos 1) (greatest +ℤ pos 1) (omega (arith, ints)) r);
  printed = printed;
}

-- one below it or above it is not
pub below-range : {AtLeast More : ℤ → Type 0} → Falls AtLeast More → (least t : ℤ) → t <ℤ least → IsPrintedYield AtLeast More t → IsBelow least AtLeast More
below-range falls least t low printed = record {
  least_not_reached = λ r. printed.next_not_reached (reached-le falls (t +ℤ pos 1) least (omega (arith, ints)) r);
}

pub above-range : {AtLeast More : ℤ → Type 0} → Falls AtLeast More → (greatest t : ℤ) → greatest <ℤ t → IsPrintedYield AtLeast More t → IsAbove greatest AtLeast More
above-range falls greatest t high printed = reached-le falls (greatest +ℤ pos 1) t (omega (arith, ints)) printed.reached
