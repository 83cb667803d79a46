-- How a command ended.
use Rattle.std.specs.Prelude.{ℕ, Result, Ok, Err}
use Rattle.muni_desk.specs.declared.status.Status.{Status}
use Rattle.muni_desk.specs.declared.status.Status.TheVariants.{Done, Usage, Refused, ReadFault, WriteFault, StoreFault, DoorFault, NoMemory, TooLarge}
use Rattle.muni_desk_io.specs.declared.fault.Fault.{Fault}
use Rattle.muni_desk_io.specs.declared.fault.Fault.TheVariants as fault
use Rattle.muni_desk_import.specs.declared.confirmations.Answered.{Answered}
use Rattle.muni_desk_import.specs.declared.confirmations.Answered.TheVariants.{Confirmed}
use Rattle.muni_desk_import.specs.declared.confirmations.Answered.TheVariants as answer
use Rattle.muni_check.specs.declared.command.CheckEnd.{CheckEnd}
use Rattle.muni_check.specs.declared.command.CheckEnd.TheVariants.{AllRight, NotAllRight, BadNames}
use Rattle.muni_desk_serve.specs.Fault.{Outcome}
use Rattle.muni_desk_serve.specs.declared.fault.ServeFault.TheVariants as serve

-- of a fault of a command over a store
abbrev pub of_fault : Fault → Status
of_fault fault.Read = ReadFault
of_fault fault.Write = WriteFault
of_fault fault.Store = StoreFault
of_fault fault.NoMemory = NoMemory
of_fault fault.TooLarge = TooLarge

-- of a command that is done or has met a fault
abbrev pub of_done : Result (Unit {0}) Fault → Status
of_done (Ok done) = Done
of_done (Err why) = of_fault why

-- of a confirmation
abbrev pub of_answered : Result Answered Fault → Status
of_answered (Ok Confirmed) = Done
of_answered (Ok answer.Refused) = Refused
of_answered (Err why) = of_fault why

-- of a check of figures
abbrev pub of_checked : Result CheckEnd Fault → Status
of_checked (Ok AllRight) = Done
of_checked (Ok NotAllRight) = Refused
of_checked (Ok BadNames) = Refused
of_checked (Err why) = of_fault why

-- of a run of connections
abbrev pub of_served : Outcome → Status
of_served (Ok done) = Done
of_served (Err serve.Store) = StoreFault
of_served (Err serve.Door) = DoorFault
of_served (Err serve.NoMemory) = NoMemory

-- the program's exit status
abbrev pub number_of : Status → ℕ
number_of Done = 0
number_of Usage = 2
number_of Refused = 3
number_of ReadFault = 4
number_of WriteFault = 5
number_of StoreFault = 6
number_of DoorFault = 7
number_of NoMemory = 8
number_of TooLarge = 9
