-- Counts of faults.
use Rattle.std.specs.Prelude.{◌≡◌, ◌≤◌, ◌+◌, ◌-◌, ◌^◌, ℕ, min, Result, OnOk, OnErr}

-- A count of faults rose, or is at the last value of its type.
abbrev pub Rose : ℕ → ℕ → Type 0
Rose before now = min (before + 1) (2 ^ 64 - 1) ≤ now

-- A call counts a fault if it fails, and none if it succeeds.
pub record CountsFaults {T E : Type 0} (before now : ℕ) (result : Result T E) : Type 0 where
  pub uncounted : OnOk result (now ≡ before)
  pub later : before ≤ now
  pub failed : OnErr result (Rose before now)
