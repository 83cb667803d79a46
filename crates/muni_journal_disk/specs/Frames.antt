-- What a call leaves of a disk or a shelf. Each ghost is a parameter of its own, so that the traits can cite
-- these definitions.
use Rattle.std.specs.Prelude.{◌≡◌, ◌≢◌, ◌≤◌, ℕ, List, Option, Result, is_some, IsErrOf}
use Rattle.muni_edge.specs.Faults.{Rose}
use Rattle.muni_journal_disk.specs.Disk.{GoesBy}

-- The call writes nothing: what the disk reads as stays, a stop can leave nothing more, and this fault is counted.
pub record Keeps {D T E : Type 0} (bytes_of : D → Option (List ℕ)) (image_of : D → List ℕ → Type 0) (faults_of : D → ℕ) (fault : E) (result : Result T E) (old new : D) : Type 0 where
  pub bytes : bytes_of new ≡ bytes_of old
  pub images : (c : List ℕ) → image_of new c → image_of old c
  pub later : faults_of old ≤ faults_of new
  pub failed : IsErrOf result fault → Rose (faults_of old) (faults_of new)

-- The call may write: the disk exposes its bytes if it did before, and this fault is counted.
pub record IsSame {D T E : Type 0} (bytes_of : D → Option (List ℕ)) (faults_of : D → ℕ) (fault : E) (result : Result T E) (old new : D) : Type 0 where
  pub tells : is_some (bytes_of new) ≡ is_some (bytes_of old)
  pub later : faults_of old ≤ faults_of new
  pub failed : IsErrOf result fault → Rose (faults_of old) (faults_of new)

-- The call takes time.
abbrev pub TakesTime : {D : Type 0} → (D → ℕ) → (D → ℕ → List ℕ → Type 0) → (D → List ℕ → Type 0) → D → D → Type 0
TakesTime clock since image old new = GoesBy (clock old) (clock new) (since old) (since new) (image new)

-- The disks of the other names stay, and each name exposes its bytes if it did before.
pub record KeepsOthers {S : Type 0} (told_of : S → List ℕ → Option (List ℕ)) (disk_faults_of : S → List ℕ → ℕ) (name : List ℕ) (old new : S) : Type 0 where
  pub tells : (other : List ℕ) → is_some (told_of new other) ≡ is_some (told_of old other)
  pub others : (other : List ℕ) → other ≢ name → told_of new other ≡ told_of old other
  pub faults : (other : List ℕ) → other ≢ name → disk_faults_of new other ≡ disk_faults_of old other

-- A disk comes off a shelf, or goes back: nothing happens to it meanwhile.
pub record IsMoved (before now : ℕ) (past since : ℕ → List ℕ → Type 0) : Type 0 where
  pub clock : now ≡ before
  pub same : (t : ℕ) (c : List ℕ) → since t c → past t c

-- Nothing happens to the disks of the other names.
pub record KeepsMoments {S : Type 0} (clock_of : S → List ℕ → ℕ) (since_of : S → List ℕ → ℕ → List ℕ → Type 0) (name : List ℕ) (old new : S) : Type 0 where
  pub others : (other : List ℕ) → other ≢ name → IsMoved (clock_of old other) (clock_of new other) (since_of old other) (since_of new other)

-- What lies under the other names stays, and nothing happens to it meanwhile.
pub record LeavesOthers {S : Type 0} (told_of : S → List ℕ → Option (List ℕ)) (disk_faults_of : S → List ℕ → ℕ) (clock_of : S → List ℕ → ℕ) (since_of : S → List ℕ → ℕ → List ℕ → Type 0) (name : List ℕ) (old new : S) : Type 0 where
  pub disks : KeepsOthers told_of disk_faults_of name old new
  pub moments : KeepsMoments clock_of since_of name old new

-- The disks of all names read as they did, and nothing happens to them.
pub record LeavesAll {S : Type 0} (told_of : S → List ℕ → Option (List ℕ)) (clock_of : S → List ℕ → ℕ) (since_of : S → List ℕ → ℕ → List ℕ → Type 0) (old new : S) : Type 0 where
  pub unchanged : (other : List ℕ) → told_of new other ≡ told_of old other
  pub unmoved : (other : List ℕ) → IsMoved (clock_of old other) (clock_of new other) (since_of old other) (since_of new other)
