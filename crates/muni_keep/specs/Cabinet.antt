-- What a fetch gives, and what a command over a store leaves of the cabinet that lent its keeper.
use Rattle.std.specs.Prelude.{◌≡◌, ◌≢◌, ◌≤◌, ℕ, List, Result, Some, None, is_some, IfOk, IfSome, OnErr, IsErrOf}
use Rattle.muni_edge.specs.Faults.{Rose}
use Rattle.muni_keep.specs.declared.fault.KeepFault.{KeepFault}
use Rattle.muni_keep.specs.declared.fault.KeepFault.TheVariants.{Failed}
use Rattle.muni_keep.specs.declared.cabinet.Cabinet.{Ghosts}
use Rattle.muni_keep.specs.declared.keeper.Keeper as keeper

-- The tables of the other stores stay, and the keeper is back.
pub record LeavesOthers {C K : Type 0} (cabinet : Ghosts C K) (store : List ℕ) (old new : C) : Type 0 where
  pub others : (other : List ℕ) → other ≢ store → cabinet.told new other ≡ cabinet.told old other
  pub none_out : cabinet.out new ≡ None

-- The tables of all stores stay, and the keeper is back.
pub record LeavesAll {C K : Type 0} (cabinet : Ghosts C K) (old new : C) : Type 0 where
  pub tables : (store : List ℕ) → cabinet.told new store ≡ cabinet.told old store
  pub none_out : cabinet.out new ≡ None

-- A fetch lends the keeper of the tables of a name, with no fault counted. The tables of the other names stay,
-- and after a refusal those of all names.
pub record Fetches {C K : Type 0} (cabinet : Ghosts C K) (lends : keeper.Ghosts K) (name : List ℕ) (result : Result K KeepFault) (old new : C) : Type 0 where
  pub tables : IfOk result (λ lent. IfSome (cabinet.told old name) (λ t. lends.tables lent ≡ Some t))
  pub count : IfOk result (λ lent. lends.faults lent ≡ 0)
  pub out : IfOk result (λ lent. cabinet.out new ≡ Some (name, lends.lent_as lent))
  pub tells : (other : List ℕ) → is_some (cabinet.told new other) ≡ is_some (cabinet.told old other)
  pub others : (other : List ℕ) → other ≢ name → cabinet.told new other ≡ cabinet.told old other
  pub unchanged : OnErr result ((other : List ℕ) → cabinet.told new other ≡ cabinet.told old other)
  pub none_out : OnErr result (cabinet.out new ≡ None)
  pub later : cabinet.faults old ≤ cabinet.faults new
  pub failed : IsErrOf result Failed → Rose (cabinet.faults old) (cabinet.faults new)
