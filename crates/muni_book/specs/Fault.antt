-- Faults of keepers, as faults of the book.
use Rattle.muni_keep.specs.declared.fault.KeepFault.{KeepFault}
use Rattle.muni_keep.specs.declared.fault.KeepFault.TheVariants as keep
use Rattle.muni_book.specs.declared.fault.BookFault.{BookFault}
use Rattle.muni_book.specs.declared.fault.BookFault.TheVariants.{Failed, NoMemory}

-- the keeper failed, or had no memory
abbrev pub fault_of : KeepFault → BookFault
fault_of keep.Failed = Failed
fault_of keep.NoMemory = NoMemory
