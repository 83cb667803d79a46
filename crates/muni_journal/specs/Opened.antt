-- What comes of a disk that is opened.
use Rattle.std.specs.Prelude.{◌≡◌, None, Result, Ok, Err}
use Rattle.muni_edge.specs.Faults.{Rose}
use Rattle.muni_journal_disk.specs.Disk.{IfRead}
use Rattle.muni_journal_disk.specs.declared.fault.DiskFault.TheVariants.{Failed}
use Rattle.muni_journal_disk.specs.declared.disk.Disk.{Ghosts}
use Rattle.muni_journal.specs.Journal.{IsNoJournal, HasTables}
use Rattle.muni_journal.specs.declared.fetching.FetchFault.TheVariants.{Disk, NotAJournal}
use Rattle.muni_journal.specs.declared.keeper.JournalKeeper.{JournalKeeper}
use Rattle.muni_journal.specs.declared.opening.Unfetched.{Unfetched}

-- the disk: the keeper has it, or it came back with the refusal
abbrev pub left : {D : Type 0} {of : Ghosts D} → Result (JournalKeeper D of) (Unfetched D) → D
left (Ok keeper) = keeper.disk
left (Err unfetched) = unfetched.disk

-- The keeper has the tables for which the disk stands. No put is in doubt, and no fault is counted.
pub record IsKeeperOf {D : Type 0} (of : Ghosts D) (disk : D) (keeper : JournalKeeper D of) : Type 0 where
  pub tables : HasTables (of.bytes disk) keeper.kept
  pub settled : keeper.in_doubt ≡ None
  pub uncounted : keeper.faults ≡ 0

-- Why no keeper was fetched. It is no journal only if the disk stands for no tables, or its slots end past the
-- limit, and a failure of the disk is counted.
pub record IsUnfetched {D : Type 0} (of : Ghosts D) (disk : D) (unfetched : Unfetched D) : Type 0 where
  pub none : unfetched.fault ≡ NotAJournal → IfRead (of.bytes disk) IsNoJournal
  pub failed : unfetched.fault ≡ Disk Failed → Rose (of.faults disk) (of.faults unfetched.disk)
