-- The bytes of a disk: as it reads, and as a stop leaves them.
use Rattle.std.specs.Prelude.{◌≡◌, ◌⊎◌, ◌↔◌, ℕ, ◌≤◌, List, Option, Some, None, Result, IfOk, IsErrOf}
use Rattle.muni_edge.specs.Faults.{Rose}
use Rattle.muni_journal_disk.specs.Bytes.{byte_at, IsSameOutside}
use Rattle.muni_journal_disk.specs.declared.fault.DiskFault.{DiskFault}
use Rattle.muni_journal_disk.specs.declared.fault.DiskFault.TheVariants.{Failed}

-- The disk reads as these bytes, with any number of 0 after them. A disk that does not tell reads
-- as none.
abbrev pub ReadsAs : Option (List ℕ) → List ℕ → Type 0
ReadsAs None image = ⊥
ReadsAs (Some bytes) image = (i : ℕ) → byte_at image i ≡ byte_at bytes i

-- this holds of the bytes that a disk reads as, if it exposes them
abbrev pub IfRead : Option (List ℕ) → (List ℕ → Type 0) → Type 0
IfRead bytes Holds = (c : List ℕ) → ReadsAs bytes c → Holds c

-- An answer is this value of what the disk reads as, if it exposes that.
abbrev pub Found : {T E : Type 0} → Option (List ℕ) → Result T E → (List ℕ → T) → Type 0
Found bytes result value = IfOk result (λ found. IfRead bytes (λ c. found ≡ value c))

-- the image comes so from one that there was
abbrev pub ComesFrom : (List ℕ → List ℕ → Type 0) → (List ℕ → Type 0) → List ℕ → Type 0
ComesFrom Step old image = (before : List ℕ) × old before × Step before image

-- each new image is one of the old ones, but for any bytes in the range
abbrev pub IsTorn : ℕ → ℕ → (List ℕ → Type 0) → (List ℕ → Type 0) → Type 0
IsTorn place count old new =
    (image : List ℕ) → new image → ComesFrom (IsSameOutside place count) old image

-- Time goes by in a call: a stop since an earlier moment leaves what it might have left before the
-- call, or an image of the moment after it.
pub record GoesBy (before now : ℕ) (past since : ℕ → List ℕ → Type 0) (image : List ℕ → Type 0) : Type 0 where
  pub later : before ≤ now
  pub told : (t : ℕ) (c : List ℕ) → t ≤ before → since t c ↔ (past t c ⊎ image c)

-- the count of faults never falls, and a failure has raised it
pub record HasCause {T : Type 0} (before now : ℕ) (result : Result T DiskFault) : Type 0 where
  pub later : before ≤ now
  pub failed : IsErrOf result Failed → Rose before now

-- What a stop since the begin of a call may have left is so.
pub record StopsLeave {D : Type 0} (clock : D → ℕ) (since : D → ℕ → List ℕ → Type 0) (old new : D) (IsSo : List ℕ → Type 0) : Type 0 where
  pub later : clock old ≤ clock new
  pub each : (c : List ℕ) → since new (clock old) c → IsSo c
  -- and since an earlier moment, it is so or might have been left before the call
  pub before : (t : ℕ) (c : List ℕ) → t ≤ clock old → since new t c → since old t c ⊎ IsSo c
