-- What a call leaves of the desk that a keeper watches.
use Rattle.std.specs.Prelude.{◌≡◌, Result, OnOk, OnErr}
use Rattle.std.specs.Option.{option_map}
use Rattle.muni_keep.specs.Frames.{Found}
use Rattle.muni_keep.specs.Keeper.{OnlyReads, SameKeeper}
use Rattle.muni_keep.specs.Tables.{Tables}
use Rattle.muni_keep.specs.declared.fault.KeepFault.{KeepFault}
use Rattle.muni_keep.specs.declared.fault.KeepFault.TheVariants.{Failed}
use Rattle.muni_keep.specs.declared.keeper.Keeper.{Ghosts}
use Rattle.muni_position.specs.declared.positioned.Positioned.{Positioned}
use Rattle.muni_position.specs.declared.put_fault.PutFault.{PutFault}
use Rattle.muni_position.specs.declared.put_fault.PutFault.TheVariants.{Refused}

-- The desk that is watched and the own count of faults stay.
pub record KeepsWatch {K : Type 0} {of : Ghosts K} (old new : Positioned K of) : Type 0 where
  pub desk : new.desk ≡ old.desk
  pub own : new.faults ≡ old.faults

-- A call only looks at the keeper inside, and the watch stays.
pub record LooksInside {K T : Type 0} (of : Ghosts K) (result : Result T KeepFault) (old new : Positioned K of) : Type 0 where
  pub reads : OnlyReads of result old.inner new.inner
  pub watch : KeepsWatch old new

-- And it finds this value of the tables.
pub record FindsInside {K T : Type 0} (of : Ghosts K) (result : Result T KeepFault) (value : Tables → T) (old new : Positioned K of) : Type 0 where
  pub found : Found (of.tables old.inner) result value
  pub looks : LooksInside of result old new

-- A put changes the tables of the keeper inside by an edit, or after a refusal not at all. It is the same keeper, and
-- a failure of it is counted.
pub record EditsInside {K T : Type 0} (of : Ghosts K) (edit : Tables → Tables) (result : Result T PutFault) (old new : K) : Type 0 where
  pub kept : OnOk result (of.tables new ≡ option_map edit (of.tables old))
  pub unchanged : OnErr result (of.tables new ≡ of.tables old)
  pub same : SameKeeper of (Refused Failed) result old new
