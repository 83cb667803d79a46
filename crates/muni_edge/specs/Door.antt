-- What a door exposes.
use Rattle.std.specs.Prelude.{ℕ, ◌+◌, ◌-◌, List, [], ◌∷◌, ◌++◌, drop, Option, Some, None}

-- the port that it is bound to, the links that wait and those that are served, and how many are out
pub record DoorState (L : Type 0) : Type 0 where
  pub port : Option ℕ
  pub waiting : List L
  pub served : List L
  pub out : ℕ

-- the door is bound to a port, and its links are as they were
abbrev pub bound_to : {L : Type 0} → ℕ → DoorState L → DoorState L
bound_to port door = record door { port = Some port }

-- if a link was given, the first that waited is out, and all else is as it was
abbrev pub after_accept : {L : Type 0} → Option L → DoorState L → DoorState L
after_accept None door = door
after_accept (Some link) door = record door { waiting = drop 1 door.waiting; out = door.out + 1 }

-- a link came back, and is the last of those that are served; the others wait as before
abbrev pub handed_back : {L : Type 0} → L → DoorState L → DoorState L
handed_back link door = record door { served = door.served ++ link ∷ []; out = door.out - 1 }
