-- What a call leaves of a keeper over a journal.
use Rattle.std.specs.Prelude.{◌≡◌, ◌≢◌, ◌<◌, ◌+◌, ◌^◌, ◌⊎◌, ℕ, List, length, Some, None, is_some, Result, OnOk, OnErr, IsErrOf}
use Rattle.muni_edge.specs.Faults.{Rose}
use Rattle.muni_keep.specs.Keeper.{EditsTables}
use Rattle.muni_keep.specs.declared.fault.KeepFault.{KeepFault}
use Rattle.muni_keep.specs.declared.fault.KeepFault.TheVariants.{Failed as KeepFailed}
use Rattle.muni_keep.specs.declared.keeper.Keeper as keep
use Rattle.muni_journal_disk.specs.Disk.{StopsLeave}
use Rattle.muni_journal_disk.specs.declared.fault.DiskFault.{DiskFault}
use Rattle.muni_journal_disk.specs.declared.fault.DiskFault.TheVariants.{Failed}
use Rattle.muni_journal_disk.specs.declared.disk.Disk.{Ghosts}
use Rattle.muni_journal_record.specs.Body.{body_of}
use Rattle.muni_journal_record.specs.declared.put.Put.{Put}
use Rattle.muni_journal.specs.Journal.{HasTables, tables_of}
use Rattle.muni_journal.specs.Puts.{after}
use Rattle.muni_journal.specs.Stops.{StandsFor}
use Rattle.muni_journal.specs.declared.keeper.JournalKeeper.{JournalKeeper}

-- A put in doubt could not be taken back: it is still in doubt, the tables stay, and a failure of the disk is
-- counted. Each image since the call began stands for the tables, or for them after that put.
pub record IsUnsettled {D : Type 0} (of : Ghosts D) (fault : DiskFault) (old new : JournalKeeper D of) : Type 0 where
  pub tables : new.kept ≡ old.kept
  pub in_doubt : new.in_doubt ≡ old.in_doubt
  pub stops : StopsLeave of.clock of.since old.disk new.disk (StandsFor old.kept old.in_doubt None)
  pub tells : is_some (of.bytes new.disk) ≡ is_some (of.bytes old.disk)
  pub failed : fault ≡ Failed → Rose (of.faults old.disk) (of.faults new.disk)

-- No put is in doubt any more: the disk stands for the tables, and each image of it does. Each image since the call
-- began stands for them, or for them after the put that was in doubt.
pub record IsLetGo {D : Type 0} (of : Ghosts D) (keeper : JournalKeeper D of) (disk : D) : Type 0 where
  pub stands : HasTables (of.bytes disk) keeper.kept
  pub images : (c : List ℕ) → of.image disk c → tables_of c ≡ Some keeper.kept
  pub stops : StopsLeave of.clock of.since keeper.disk disk (StandsFor keeper.kept keeper.in_doubt None)
  pub tells : is_some (of.bytes disk) ≡ is_some (of.bytes keeper.disk)

-- A fault is counted only if the disk has failed, or the slot of the put would end past the limit.
abbrev pub CountsForCause : {D : Type 0} → (of : Ghosts D) → Put → JournalKeeper D of → JournalKeeper D of → Type 0
CountsForCause of put old new =
    new.faults ≢ old.faults → Rose (of.faults old.disk) (of.faults new.disk) ⊎ (2 ^ 40 < old.gate + 5 + length (body_of put))

-- Which put is in doubt after one: none if it succeeded, and after a refusal none, the one that was, or this one.
pub record SettlesDoubt {D T E : Type 0} (of : Ghosts D) (put : Put) (result : Result T E) (old new : JournalKeeper D of) : Type 0 where
  pub settled : OnOk result (new.in_doubt ≡ None)
  pub refused : OnErr result ((new.in_doubt ≡ None) ⊎ ((new.in_doubt ≡ old.in_doubt) ⊎ (new.in_doubt ≡ Some put)))

-- A put edits the tables, or after a refusal not at all. Each image since the call began stands for the tables
-- before it, or for them after one put more: this one, or the last that failed and was not taken back.
pub record EditsJournal {D T : Type 0} (of : Ghosts D) (keeper : keep.Ghosts (JournalKeeper D of)) (put : Put) (result : Result T KeepFault) (old new : JournalKeeper D of) : Type 0 where
  pub edits : EditsTables keeper (λ tables. after tables put) result old new
  pub stops : StopsLeave of.clock of.since old.disk new.disk (StandsFor old.kept old.in_doubt (Some put))
  pub tells : is_some (of.bytes new.disk) ≡ is_some (of.bytes old.disk)
  pub counted : CountsForCause of put old new
  pub doubt : SettlesDoubt of put result old new
  -- a slot that would end past the limit is refused
  pub limit : old.in_doubt ≡ None → 2 ^ 40 < old.gate + 5 + length (body_of put) → IsErrOf result KeepFailed
