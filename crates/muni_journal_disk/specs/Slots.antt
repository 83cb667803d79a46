-- What a stop leaves of a slot that is put or taken back.
use Rattle.std.specs.Prelude.{◌≡◌, ◌≢◌, ◌⊎◌, ℕ, ◌+◌, List}
use Rattle.muni_journal_disk.specs.Bytes.{byte_at, StandsAt, IsSameBefore, IsSameOutside}

-- nothing before the gate has changed, and the gate is closed or the whole piece follows it
pub record IsStep (gate : ℕ) (piece old new : List ℕ) : Type 0 where
  pub before : IsSameBefore gate old new
  pub whole : (byte_at new gate ≢ 1) ⊎ StandsAt (gate + 1) piece new

-- nothing before the gate has changed, nor has the gate
abbrev pub IsUnopened : ℕ → List ℕ → List ℕ → Type 0
IsUnopened gate old new = IsSameBefore (gate + 1) old new

-- nothing before the gate has changed, the piece follows it, and the gate holds any byte
pub record IsDoubtful (gate : ℕ) (piece old new : List ℕ) : Type 0 where
  pub before : IsSameBefore gate old new
  pub behind : StandsAt (gate + 1) piece new

-- nothing before the gate has changed, the gate is open, and the piece follows it
pub record IsPut (gate : ℕ) (piece old new : List ℕ) : Type 0 where
  pub before : IsSameBefore gate old new
  pub is_open : byte_at new gate ≡ 1
  pub behind : StandsAt (gate + 1) piece new

-- nothing but the gate has changed, and the gate is closed by 0
pub record IsTakenBack (gate : ℕ) (old new : List ℕ) : Type 0 where
  pub others : IsSameOutside gate 1 old new
  pub is_closed : byte_at new gate ≡ 0

-- a fact of all images
pub record AllImages (image IsSo : List ℕ → Type 0) : Type 0 where
  pub each : (c : List ℕ) → image c → IsSo c
