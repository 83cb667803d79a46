-- What a door in memory does.
use Rattle.std.specs.Prelude.{ℕ, List, [], None}
use Rattle.muni_edge.specs.Calls.{CallState, none_made}
use Rattle.muni_edge.specs.MemLink.{LinkState}
use Rattle.muni_edge.specs.Door.{DoorState}

-- what the door exposes, and the calls of `bind` and `accept`
pub record MemDoorState : Type 0 where
  pub door : DoorState LinkState
  pub calls : CallState

-- it is bound to no port, and no link was given
abbrev pub new_door : List LinkState → List ℕ → MemDoorState
new_door waiting failing =
    record {
      door = record { port = None; waiting = waiting; served = []; out = 0 };
      calls = none_made failing;
    }
