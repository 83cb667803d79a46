-- The calls of a disk in memory, the latest first.
use Rattle.std.specs.Prelude.{◌≡◌, ℕ, ◌+◌, ◌-◌, ◌&&◌, ◌||◌, nat_le, nat_lt, min, Bool, false, if◌then◌else◌, List, [], ◌∷◌, take, length, Option, slice_get}
use Rattle.muni_journal_disk.specs.Bytes.{byte_at, StandsAt, IsSameOutside}
use Rattle.muni_journal_disk.specs.declared.past.Piece.{Piece}
use Rattle.muni_journal_disk.specs.declared.past.Step.{Step}
use Rattle.muni_journal_disk.specs.declared.past.Step.TheVariants.{Read, Write, Synced, Unsynced}
use Rattle.muni_journal_disk.specs.declared.past.MadeCall.{MadeCall}

-- whether a place is one that a piece is written to
abbrev pub is_in : Piece → ℕ → Bool
is_in piece i = nat_le piece.place i && nat_lt i (piece.place + length piece.bytes.items)

-- a place is unsure after a call, by whether it was before it
abbrev pub unsure_after : Step → Bool → ℕ → Bool
unsure_after Read before i = before
unsure_after (Write piece) before i = is_in piece i || before
unsure_after Synced before i = false
unsure_after Unsynced before i = before

-- whether a place was written to, and not synced since
abbrev pub is_unsure : List MadeCall → ℕ → Bool
is_unsure [] i = false
is_unsure (call ∷ past) i = unsure_after call.step (is_unsure past i) i

-- what was synced last, after a call
abbrev pub synced_after : MadeCall → Step → List ℕ → List ℕ
synced_after call Synced bytes = call.before.items
synced_after call Read bytes = bytes
synced_after call (Write piece) bytes = bytes
synced_after call Unsynced bytes = bytes

-- what the disk read as at the last sync that succeeded, or at first
abbrev pub synced_bytes : List ℕ → List MadeCall → List ℕ
synced_bytes first [] = first
synced_bytes first (call ∷ past) = synced_after call call.step (synced_bytes first past)

-- an image holds any bytes at the unsure places, and what was synced last at all others
pub record IsImage (first : List ℕ) (past : List MadeCall) (image : List ℕ) : Type 0 where
  pub each : (i : ℕ) → is_unsure past i ≡ false → byte_at image i ≡ byte_at (synced_bytes first past) i

-- so many bytes of a piece, or all if it has fewer
abbrev pub kept_in : ℕ → Piece → ℕ
kept_in kept piece = min kept (length piece.bytes.items)

-- what the disk read as before the call, with so many bytes of what the call was to write over it
abbrev pub IsStopped : List ℕ → ℕ → List ℕ → Step → Type 0
IsStopped before kept bytes (Write piece) =
    StandsAt piece.place (take (kept_in kept piece) piece.bytes.items) bytes × IsSameOutside piece.place (kept_in kept piece) before bytes
IsStopped before kept bytes Read = bytes ≡ before
IsStopped before kept bytes Synced = bytes ≡ before
IsStopped before kept bytes Unsynced = bytes ≡ before

-- the call with a number; the first has 0
abbrev pub call_of : List MadeCall → ℕ → Option MadeCall
call_of past number = slice_get past (length past - 1 - number)

-- a call was to read, to write a piece at a place, or to sync, which succeeded or failed
abbrev pub IsRead : Step → Type 0
IsRead step = step ≡ Read

pub record IsWrite (place : ℕ) (bytes : List ℕ) (step : Step) : Type 0 where
  pub piece : Piece
  pub is : step ≡ Write piece
  pub at : piece.place ≡ place
  pub holds : piece.bytes.items ≡ bytes

abbrev pub IsSync : Bool → Step → Type 0
IsSync fails step = step ≡ (if fails then Unsynced else Synced)
