-- What serving over a store does.
use Rattle.std.specs.Prelude.{◌≡◌, ℕ, List, Some, IfSome, OnOk, IsErrOf}
use Rattle.muni_edge.specs.Faults.{Rose}
use Rattle.muni_edge.specs.declared.door.Door as Door
use Rattle.muni_keep.specs.declared.cabinet.Cabinet as Cabinet
use Rattle.muni_desk_serve.specs.Rules.{ServingRules}
use Rattle.muni_desk_serve.specs.Connections.{IsRunOver}
use Rattle.muni_desk_serve.specs.Fault.{Outcome}
use Rattle.muni_desk_serve.specs.Serves.{Traffic}
use Rattle.muni_desk_serve.specs.declared.fault.ServeFault.TheVariants as fault

-- The connections of a run are served, if the door exposes its links. A run that is done leaves the door bound
-- to the port, and a fault of the store leaves it as it was.
pub record ServedStore {C K D L : Type 0} (cabinet : Cabinet.Ghosts C K) (door : Door.Ghosts D L) (rules : ServingRules) (told : L → Traffic) (store : List ℕ) (port most : ℕ) (outcome : Outcome) (old new : C) (before after : D) : Type 0 where
  pub run : IfSome (door.state before) (λ state. IsRunOver rules told port most state (door.state after) (cabinet.told old store) (cabinet.told new store) (cabinet.faults old) (cabinet.faults new) outcome)
  pub bound : OnOk outcome (IfSome (door.state after) (λ state. state.port ≡ Some port))
  pub unopened : IsErrOf outcome fault.Store → after ≡ before
  pub store_fault : IsErrOf outcome fault.Store → Rose (cabinet.faults old) (cabinet.faults new)
  pub door_fault : IsErrOf outcome fault.Door → Rose (door.faults before) (door.faults after)
