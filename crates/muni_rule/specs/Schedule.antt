-- The right answers for the redemption that a confirmation discloses (MSRB Rule G-15(a)): the lowest
-- price or the lowest yield, and of equal ones the earliest redemption.
-- The candidates are counted from 0 in order of date. A figure is a printed price in thousandths of a
-- dollar, or a printed yield in thousandths of a percent.
use Rattle.std.specs.Prelude.{◌≡◌, ℕ, ◌<◌, ⊤, ℤ, pos, ◌+ℤ◌, ◌≤ℤ◌}

-- What is exactly so of a candidate: its price or yield is printed as a figure, or lies below or above
-- all figures that may be printed, or no time is left for a yield. Past the last one it is `is_above`.
pub data ExactOutcome : Type 0 where
  prints : ℤ → ExactOutcome
  is_below is_above no_time : ExactOutcome

-- an exact price or yield is printed as t or more, or lies above all figures
abbrev pub IsFrom : ℤ → ExactOutcome → Type 0
IsFrom t (prints figure) = t ≤ℤ figure
IsFrom t is_below = ⊥
IsFrom t is_above = ⊤
IsFrom t no_time = ⊥

-- c is the first candidate of which this is so
pub record IsFirst (Such : ℕ → Type 0) (c : ℕ) : Type 0 where
  pub such : Such c
  pub none_before : (k : ℕ) → k < c → ¬ (Such k)

-- The lowest figure is t, and c the earliest candidate that has it: each other candidate is at t or
-- above, and each one before c is above t.
pub record IsRightLow (exact : ℕ → ExactOutcome) (t : ℤ) (c : ℕ) : Type 0 where
  pub printed : exact c ≡ prints t
  pub none_lower : (k : ℕ) → IsFrom t (exact k)
  pub higher_before : (k : ℕ) → k < c → IsFrom (t +ℤ pos 1) (exact k)

-- all candidates have time, and c is the first that lies below all figures
pub record IsRightBelow (exact : ℕ → ExactOutcome) (c : ℕ) : Type 0 where
  pub timed : (k : ℕ) → ¬ (exact k ≡ no_time)
  pub first : IsFirst (λ k. exact k ≡ is_below) c

-- all candidates lie above all figures
pub record IsRightAbove (exact : ℕ → ExactOutcome) : Type 0 where
  pub all : (k : ℕ) → exact k ≡ is_above

-- c is the first candidate without time
pub record IsRightNoTime (exact : ℕ → ExactOutcome) (c : ℕ) : Type 0 where
  pub first : IsFirst (λ k. exact k ≡ no_time) c

-- it may be left undecided whether candidate c reaches the figure t if that is in doubt
pub record IsRightUndecided (IsDoubtful : ℕ → ℤ → Type 0) (t : ℤ) (c : ℕ) : Type 0 where
  pub doubtful : IsDoubtful c t
