-- How a run of connections ends: done, or with a fault.
use Rattle.std.specs.Prelude.{Result, Err}
use Rattle.muni_keep.specs.declared.fault.KeepFault.{KeepFault}
use Rattle.muni_keep.specs.declared.fault.KeepFault.TheVariants as keeper
use Rattle.muni_desk_serve.specs.declared.fault.ServeFault.{ServeFault}
use Rattle.muni_desk_serve.specs.declared.fault.ServeFault.TheVariants as fault
use Rattle.muni_desk_serve.specs.declared.served.Served.{Served}
use Rattle.muni_desk_serve.specs.declared.served.Served.TheVariants as served

abbrev pub Outcome : Type 0
Outcome = Result (Unit {0}) ServeFault

-- the outcome after one connection more, which changes it only if memory ran out
abbrev pub outcome_after : Outcome → Served → Outcome
outcome_after now (served.Answered status) = now
outcome_after now served.Gone = now
outcome_after now served.LinkFault = now
outcome_after now served.NoMemory = Err fault.NoMemory

-- a store that cannot be fetched
abbrev pub of_keeper : KeepFault → ServeFault
of_keeper keeper.Failed = fault.Store
of_keeper keeper.NoMemory = fault.NoMemory
