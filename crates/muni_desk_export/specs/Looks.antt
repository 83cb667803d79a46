-- What a look over a keeper leaves of it.
use Rattle.std.specs.Prelude.{◌≡◌, ◌≤◌, ◌⊎◌, Result, None, IsErrOf}
use Rattle.muni_edge.specs.Faults.{Rose}
use Rattle.muni_keep.specs.declared.fault.KeepFault.{KeepFault}
use Rattle.muni_keep.specs.declared.fault.KeepFault.TheVariants.{Failed}
use Rattle.muni_keep.specs.declared.keeper.Keeper.{Ghosts}

-- It only looks. If it fails, the keeper has counted a fault; or it does not expose its tables, and a version of a
-- trade may have been missing.
pub record LooksOver {K T : Type 0} (keeper : Ghosts K) (result : Result T KeepFault) (old new : K) : Type 0 where
  pub unchanged : keeper.tables new ≡ keeper.tables old
  pub later : keeper.faults old ≤ keeper.faults new
  pub failed : IsErrOf result Failed → Rose (keeper.faults old) (keeper.faults new) ⊎ (keeper.tables old ≡ None)
  pub lent_as : keeper.lent_as new ≡ keeper.lent_as old
