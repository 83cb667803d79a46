-- What a call leaves of a keeper.
use Rattle.std.specs.Prelude.{◌≡◌, ◌≤◌, Result, is_some, IsErrOf}
use Rattle.muni_edge.specs.Faults.{Rose}
use Rattle.muni_keep.specs.Frames.{Reads, Edits}
use Rattle.muni_keep.specs.Tables.{Tables}
use Rattle.muni_keep.specs.declared.fault.KeepFault.{KeepFault}
use Rattle.muni_keep.specs.declared.keeper.Keeper.{Ghosts}

-- It only looks: the tables and its number stay, and a failure is counted.
abbrev pub OnlyReads : {K T : Type 0} → Ghosts K → Result T KeepFault → K → K → Type 0
OnlyReads keeper result old new = Reads keeper.tables keeper.faults keeper.lent_as result old new

-- It changes the tables by an edit, or after a refusal not at all. Its number stays, and a failure is counted.
abbrev pub EditsTables : {K T : Type 0} → Ghosts K → (Tables → Tables) → Result T KeepFault → K → K → Type 0
EditsTables keeper edit result old new = Edits keeper.tables keeper.faults keeper.lent_as edit result old new

-- It is the same keeper, whatever became of its tables: it exposes them if it did before, its number stays, and
-- this fault is counted.
pub record SameKeeper {K T E : Type 0} (keeper : Ghosts K) (fault : E) (result : Result T E) (old new : K) : Type 0 where
  pub tells : is_some (keeper.tables new) ≡ is_some (keeper.tables old)
  pub later : keeper.faults old ≤ keeper.faults new
  pub failed : IsErrOf result fault → Rose (keeper.faults old) (keeper.faults new)
  pub lent_as : keeper.lent_as new ≡ keeper.lent_as old
