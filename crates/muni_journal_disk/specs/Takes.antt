-- What a shelf does when it lends a disk: the clauses of its trait.
use Rattle.std.specs.Prelude.{◌≡◌, List, ℕ, Some, None, Result, IfOk, OnOk, OnErr}
use Rattle.muni_journal_disk.specs.Disk.{HasCause}
use Rattle.muni_journal_disk.specs.Frames.{LeavesAll, LeavesOthers}
use Rattle.muni_journal_disk.specs.Moves.{WasUnder}
use Rattle.muni_journal_disk.specs.declared.fault.DiskFault.{DiskFault}
use Rattle.muni_journal_disk.specs.declared.disk.Disk.{Ghosts}
use Rattle.muni_journal_disk.specs.declared.shelf.Shelf as shelf

pub record Takes {S D : Type 0} (of : shelf.Ghosts S D) (lends : Ghosts D) (name : List ℕ) (result : Result D DiskFault) (old new : S) : Type 0 where
  pub disk : IfOk result (WasUnder of.told of.disk_faults of.clock of.since lends name old)
  pub out : OnOk result (of.out new ≡ Some name)
  pub none_out : OnErr result (of.out new ≡ None)
  pub others : LeavesOthers of.told of.disk_faults of.clock of.since name old new
  pub unchanged : OnErr result (LeavesAll of.told of.clock of.since old new)
  pub cause : HasCause (of.faults old) (of.faults new) result
