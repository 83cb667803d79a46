-- Why a call is refused.
use Rattle.std.specs.Prelude.{List, Option, Some, None, Result, Ok, Err}
use Rattle.sqlite.specs.declared.types.Value.{Value}
use Rattle.sqlite.specs.declared.error.Error.{Error}
use Rattle.sqlite.specs.declared.error.Error.TheVariants.{SqliteFailure, QueryReturnedNoRows}
use Rattle.sqlite.specs.declared.error.ErrorCode.TheVariants as code
use Rattle.muni_keep.specs.declared.fault.KeepFault.{KeepFault}
use Rattle.muni_keep.specs.declared.fault.KeepFault.TheVariants as keep
use Rattle.muni_store.specs.declared.fault.StoreFault.{StoreFault}
use Rattle.muni_store.specs.declared.fault.StoreFault.TheVariants.{Failed, NoMemory, Shut}

-- the fault of a call that sqlite refused
abbrev pub fault_in : Error → StoreFault
fault_in (SqliteFailure code.OutOfMemory) = NoMemory
fault_in (SqliteFailure code.Closed) = Shut
fault_in _ = Failed

-- what a keeper answers for a fault of the store
abbrev pub fault_kept : StoreFault → KeepFault
fault_kept NoMemory = keep.NoMemory
fault_kept Failed = keep.Failed
fault_kept Shut = keep.Failed

abbrev pub kept : {T : Type 0} → Result T StoreFault → Result T KeepFault
kept (Ok value) = Ok value
kept (Err fault) = Err (fault_kept fault)

-- what a query answers whose first row is this one, or that finds none
abbrev pub answer_of : Option (List Value) → Result (List Value) Error
answer_of None = Err QueryReturnedNoRows
answer_of (Some row) = Ok row
