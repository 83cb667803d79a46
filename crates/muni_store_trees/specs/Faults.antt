-- Why a call is refused.
use Rattle.sqlite_trees.specs.declared.error.StoreError.{StoreError}
use Rattle.sqlite_trees.specs.declared.error.StoreError.TheVariants.{OutOfMemory, Broken}
use Rattle.muni_store_trees.specs.declared.fault.TreeFault.{TreeFault}
use Rattle.muni_store_trees.specs.declared.fault.TreeFault.TheVariants.{Failed, NoMemory, Shut}

-- the fault of a call that the store refused
abbrev pub fault_in : StoreError → TreeFault
fault_in OutOfMemory = NoMemory
fault_in Broken = Shut
fault_in _ = Failed
