-- A disk that comes off a shelf, and one that goes back. What a shelf exposes is a parameter of its own, so that
-- its trait can cite these records.
use Rattle.std.specs.Prelude.{◌≡◌, ℕ, List, Option, is_some, IfSome}
use Rattle.muni_journal_disk.specs.Frames.{IsMoved}
use Rattle.muni_journal_disk.specs.declared.disk.Disk.{Ghosts}

-- This disk was under the name: it reads as was told there, has failed as often, and nothing happens to it.
pub record WasUnder {S D : Type 0} (told_of : S → List ℕ → Option (List ℕ)) (disk_faults_of : S → List ℕ → ℕ) (clock_of : S → List ℕ → ℕ) (since_of : S → List ℕ → ℕ → List ℕ → Type 0) (of : Ghosts D) (name : List ℕ) (old : S) (disk : D) : Type 0 where
  pub bytes : of.bytes disk ≡ told_of old name
  pub faults : IfSome (told_of old name) (λ _. of.faults disk ≡ disk_faults_of old name)
  pub moved : IsMoved (clock_of old name) (of.clock disk) (since_of old name) (of.since disk)

-- This disk is under the name now. What it reads as is told there if the shelf told of its disk before.
pub record GoesUnder {S D : Type 0} (told_of : S → List ℕ → Option (List ℕ)) (disk_faults_of : S → List ℕ → ℕ) (clock_of : S → List ℕ → ℕ) (since_of : S → List ℕ → ℕ → List ℕ → Type 0) (of : Ghosts D) (name : List ℕ) (disk : D) (old new : S) : Type 0 where
  pub bytes : is_some (told_of old name) ≡ is_some (of.bytes disk) → told_of new name ≡ of.bytes disk
  pub faults : IfSome (told_of old name) (λ _. disk_faults_of new name ≡ of.faults disk)
  pub moved : IsMoved (of.clock disk) (clock_of new name) (of.since disk) (since_of new name)
