-- The faults of its parts, as those of a command over a store.
use Rattle.muni_keep.specs.declared.fault.KeepFault.{KeepFault}
use Rattle.muni_keep.specs.declared.fault.KeepFault.TheVariants as keeper
use Rattle.muni_book.specs.declared.fault.BookFault.{BookFault}
use Rattle.muni_book.specs.declared.fault.BookFault.TheVariants as book
use Rattle.muni_desk_io.specs.declared.fault.Fault.{Fault}
use Rattle.muni_desk_io.specs.declared.fault.Fault.TheVariants.{Read, Store, NoMemory, TooLarge}
use Rattle.muni_desk_io.specs.declared.input.InputFault.{InputFault}
use Rattle.muni_desk_io.specs.declared.input.InputFault.TheVariants as input

abbrev pub of_input : InputFault → Fault
of_input input.Failed = Read
of_input input.TooLarge = TooLarge
of_input input.NoMemory = NoMemory

abbrev pub of_keeper : KeepFault → Fault
of_keeper keeper.Failed = Store
of_keeper keeper.NoMemory = NoMemory

abbrev pub of_book : BookFault → Fault
of_book book.Failed = Store
of_book book.NoMemory = NoMemory
