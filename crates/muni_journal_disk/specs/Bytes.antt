-- Bytes at places, with 0 at every place past the end.
use Rattle.std.specs.Prelude.{◌≡◌, ℕ, zero, suc, ◌+◌, ◌<◌, ◌≤◌, List, [], ◌∷◌, length, get_or}

-- the byte at a place
abbrev pub byte_at : List ℕ → ℕ → ℕ
byte_at bytes place = get_or bytes place 0

-- so many bytes from a place on
abbrev pub bytes_at : List ℕ → ℕ → ℕ → List ℕ
bytes_at bytes place zero = []
bytes_at bytes place (suc count) = byte_at bytes place ∷ bytes_at bytes (place + 1) count

-- the bytes from a place on begin with the piece
pub record StandsAt (place : ℕ) (piece bytes : List ℕ) : Type 0 where
  pub each : (i : ℕ) → i < length piece → byte_at bytes (place + i) ≡ byte_at piece i

-- the bytes before a place are the same
pub record IsSameBefore (place : ℕ) (old new : List ℕ) : Type 0 where
  pub each : (i : ℕ) → i < place → byte_at new i ≡ byte_at old i

-- the bytes outside a range are the same
pub record IsSameOutside (place count : ℕ) (old new : List ℕ) : Type 0 where
  pub before : (i : ℕ) → i < place → byte_at new i ≡ byte_at old i
  pub after : (i : ℕ) → place + count ≤ i → byte_at new i ≡ byte_at old i
