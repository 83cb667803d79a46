-- What is read from a keeper.
use Rattle.std.specs.Prelude.{Result}
use Rattle.muni_keep.specs.Frames.{Found}
use Rattle.muni_keep.specs.Keeper.{OnlyReads}
use Rattle.muni_keep.specs.Tables.{Tables}
use Rattle.muni_keep.specs.declared.fault.KeepFault.{KeepFault}
use Rattle.muni_keep.specs.declared.keeper.Keeper.{Ghosts}

-- The answer is this value of the tables, and the keeper is only read from.
pub record Finds {K T : Type 0} (keeper : Ghosts K) (old new : K) (result : Result T KeepFault) (value : Tables → T) : Type 0 where
  pub found : Found (keeper.tables old) result value
  pub reads : OnlyReads keeper result old new
