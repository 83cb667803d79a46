-- What a call does over a file that may be opened anew.
use Rattle.std.specs.Prelude.{Option, Some, None, Result, IfSome, IsSome, OnOk}
use Rattle.muni_keep.specs.declared.fault.KeepFault.{KeepFault}
use Rattle.muni_store_trees.specs.Calls.{CountsFailure}
use Rattle.muni_store.specs.declared.keeper.SqlKeeper.{SqlKeeper}
use Rattle.muni_store.specs.declared.keeper.FileState.{FileState}
use Rattle.muni_store.specs.declared.keeper.FileState.TheVariants.{Open, Anew, Shut}

-- the keeper of the file, if it is open
abbrev pub in_hand : {Keeper : Type 0} → FileState Keeper → Option Keeper
in_hand (Open keeper) = Some keeper
in_hand (Anew keeper) = Some keeper
in_hand Shut = None

-- the keeper on which the last call has run
abbrev pub ran_on : {Keeper : Type 0} → FileState Keeper → Option Keeper
ran_on (Open keeper) = Some keeper
ran_on (Anew keeper) = None
ran_on Shut = None

-- what a call has done to the keeper of the file, if it was open before the call and has not been opened anew
abbrev pub WhileOpen : {Keeper : Type 0} → FileState Keeper → FileState Keeper → (Keeper → Keeper → Type 0) → Type 0
WhileOpen old new Does = IfSome (in_hand old) (λ before. IfSome (ran_on new) (λ after. Does before after))

-- The file was open before the call, and the call has run on it.
pub record IsOpen {Keeper : Type 0} (old new : FileState Keeper) : Type 0 where
  pub before : IsSome (in_hand old)
  pub after : IsSome (ran_on new)

-- An answer comes of a file that was open, and a failure is counted.
pub record Ends {S F T : Type 0} (result : Result T KeepFault) (old new : SqlKeeper S F) : Type 0 where
  pub answered : OnOk result (IsOpen old.state new.state)
  pub counted : CountsFailure result old.faults new.faults
