-- Calls that write nothing to a disk.
use Rattle.std.specs.Prelude.{◌≡◌, List, ℕ, Result}
use Rattle.muni_journal_disk.specs.Calls.{KeepsBytes}
use Rattle.muni_journal_disk.specs.Disk.{StopsLeave}
use Rattle.muni_journal_disk.specs.declared.disk.Disk.{Ghosts}

-- What the disk reads as stays and this fault is counted. No image comes, nor does one within the call.
pub record OnlyReads {D T E : Type 0} (of : Ghosts D) (fault : E) (result : Result T E) (old new : D) : Type 0 where
  pub keeps : KeepsBytes of fault result old new
  pub stops : StopsLeave of.clock of.since old new (of.image old)

-- The same of a disk that was handed over, whatever it counts.
pub record Stays {D : Type 0} (of : Ghosts D) (old new : D) : Type 0 where
  pub bytes : of.bytes new ≡ of.bytes old
  pub images : (c : List ℕ) → of.image new c → of.image old c
  pub stops : StopsLeave of.clock of.since old new (of.image old)
