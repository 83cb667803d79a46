-- The disks of a cabinet of journals: what came back to the shelf, and what has failed.
use Rattle.std.specs.Prelude.{◌≡◌, ◌⊎◌, ℕ, List, Option, Some, None, IfSome, IsSomeAnd}
use Rattle.muni_edge.specs.Faults.{Rose}
use Rattle.muni_journal_disk.specs.Frames.{KeepsMoments, KeepsOthers}
use Rattle.muni_journal_disk.specs.declared.disk.Disk as disk
use Rattle.muni_journal_disk.specs.declared.shelf.Shelf as shelf
use Rattle.muni_journal.specs.Journal.{IsNoJournal, tables_of}
use Rattle.muni_journal.specs.Stops.{StandsFor}
use Rattle.muni_journal.specs.Told.{told_of}
use Rattle.muni_journal.specs.declared.cabinet.Held.{Held}
use Rattle.muni_journal.specs.declared.keeper.JournalKeeper.{JournalKeeper}

-- The disk of a keeper is back on its shelf, and stands there for the tables of the keeper, which were told for
-- its name. Those of the other names stay.
pub record IsBack {S D : Type 0} (of : shelf.Ghosts S D) (lends : disk.Ghosts D) (name : List ℕ) (keeper : JournalKeeper D lends) (old new : S) : Type 0 where
  pub none_out : of.out new ≡ None
  pub told : (other : List ℕ) → told_of None (of.told new) other ≡ told_of (Some (name, keeper.kept)) (of.told old) other
  pub others : KeepsOthers of.told of.disk_faults name old new
  pub moments : KeepsMoments of.clock of.since name old new
  -- no stop now leaves anything else, and none since the call began anything but the put in doubt
  pub stands : (c : List ℕ) → of.since new name (of.clock new name) c → tables_of c ≡ Some keeper.kept
  pub stops : (c : List ℕ) → of.since new name (lends.clock keeper.disk) c → StandsFor keeper.kept keeper.in_doubt None c

-- the disk of a keeper has failed that was held before and is held after
abbrev pub HeldFailed : {D : Type 0} → (of : disk.Ghosts D) → Option (Held D of) → Option (Held D of) → Type 0
HeldFailed of old new =
    IsSomeAnd old (λ h. IsSomeAnd new (λ still. Rose (of.faults h.keeper.disk) (of.faults still.keeper.disk)))

-- the disk of a name has failed or is no journal, if it exposes its bytes
abbrev pub DiskFailed : {S D : Type 0} → shelf.Ghosts S D → List ℕ → S → S → Type 0
DiskFailed of name old new =
    IfSome (of.told old name) (λ bytes. Rose (of.disk_faults old name) (of.disk_faults new name) ⊎ IsNoJournal bytes)
