-- What is done with the connections of a door, one after another.
use Rattle.std.specs.Prelude.{◌≡◌, ◌≢◌, ◌⊎◌, ◌≤◌, ◌+◌, ℕ, List, [], ◌∷◌, ◌++◌, length, map, Option, Some, None, Result, IfSome, Ok, Err, slice_get, is_some, ⊤}
use Rattle.std.specs.List.{All, Contains}
use Rattle.muni_edge.specs.Door.{DoorState, after_accept, handed_back}
use Rattle.muni_edge.specs.declared.door.Door as door
use Rattle.muni_edge.specs.declared.fault.Failed.{Failed}
use Rattle.muni_keep.specs.Tables.{Tables}
use Rattle.muni_keep.specs.declared.keeper.Keeper as keeper
use Rattle.muni_desk_serve.specs.Rules.{ServingRules}
use Rattle.muni_desk_serve.specs.Fault.{Outcome}
use Rattle.muni_desk_serve.specs.Serves.{Traffic, Serves, RoseBy, WasServed}
use Rattle.muni_desk_serve.specs.declared.served.Served.{Served}
use Rattle.muni_desk_serve.specs.declared.served.Served.TheVariants as served
use Rattle.muni_desk_serve.specs.declared.fault.ServeFault.TheVariants as fault

-- a link as it was accepted and as it was handed back, and what came of it
pub record Connection (L : Type 0) : Type 0 where
  pub accepted : L
  pub back : L
  pub came : Served

-- what a connection exposes before and after it is served, and what came of it
pub record Exchange : Type 0 where
  pub before : Traffic
  pub after : Traffic
  pub came : Served

abbrev pub exchange : {L : Type 0} → (L → Traffic) → Connection L → Exchange
exchange told connection =
    record {
      before = told connection.accepted;
      after = told connection.back;
      came = connection.came;
    }

-- Each connection is served from the tables that the one before it left. The number is that of the
-- faults of the keeper that their answers report.
unfoldable pub AreServed : ServingRules → Option Tables → List Exchange → Option Tables → ℕ → Type 0
AreServed rules old [] new faults = (new ≡ old) × (faults ≡ 0)
AreServed rules old (first ∷ others) new faults =
    (mid : Option Tables) × (one : ℕ) × (more : ℕ) × (faults ≡ one + more)
    × Serves rules old first.before first.came mid first.after one
    × AreServed rules mid others new more

-- none of them ended because memory ran out
abbrev pub NoneWanted : {L : Type 0} → List (Connection L) → Type 0
NoneWanted connections = All (λ c. c.came ≢ served.NoMemory) connections

-- one of them did
abbrev pub SomeWanted : {L : Type 0} → List (Connection L) → Type 0
SomeWanted connections = Contains (map (λ c. c.came) connections) served.NoMemory

-- the links that waited first were accepted and handed back, and no others
pub record AreHandedBack {L : Type 0} (connections : List (Connection L)) (door after : DoorState L) : Type 0 where
  pub waiting : door.waiting ≡ map (λ c. c.accepted) connections ++ after.waiting
  pub served : after.served ≡ door.served ++ map (λ c. c.back) connections
  pub out : after.out ≡ door.out

-- as many were served as were asked for, or no more wait
abbrev pub AreAll : {L : Type 0} → List (Connection L) → ℕ → DoorState L → Type 0
AreAll connections most after = (length connections ≡ most) ⊎ (after.waiting ≡ [])

-- what the end of a run says of its connections
abbrev pub Ends : {L : Type 0} → Outcome → List (Connection L) → ℕ → DoorState L → Type 0
Ends (Ok done) connections most after = NoneWanted connections × AreAll connections most after
Ends (Err fault.Store) connections most after = connections ≡ []
Ends (Err fault.Door) connections most after = ⊤
Ends (Err fault.NoMemory) connections most after =
    (connections ≡ []) ⊎ (SomeWanted connections × AreAll connections most after)

-- Connections of a door were served, at most so many, from tables to tables; a count rose by the faults
-- that their answers report.
pub record WereServed {L : Type 0} (rules : ServingRules) (told : L → Traffic) (connections : List (Connection L)) (most : ℕ) (door after : DoorState L) (old new : Option Tables) (before now : ℕ) : Type 0 where
  pub handed : AreHandedBack connections door after
  pub few : length connections ≤ most
  pub faults : ℕ
  pub each : AreServed rules old (map (exchange told) connections) new faults
  pub rose : RoseBy faults before now

-- A run of connections, and how it ended. The door was bound to the port before the first one.
pub record IsRun {L : Type 0} (rules : ServingRules) (told : L → Traffic) (port most : ℕ) (door : DoorState L) (state : Option (DoorState L)) (old new : Option Tables) (before now : ℕ) (end : Outcome) : Type 0 where
  pub connections : List (Connection L)
  pub after : DoorState L
  pub told_after : state ≡ Some after
  pub served : WereServed rules told connections most door after old new before now
  pub bound : (connections ≡ []) ⊎ (after.port ≡ Some port)
  pub ends : Ends end connections most after

-- The tables of a run over a store: those that the store opens with and closes with, if it exposes them.
pub record IsRunOver {L : Type 0} (rules : ServingRules) (told : L → Traffic) (port most : ℕ) (door : DoorState L) (state : Option (DoorState L)) (opening closing : Option Tables) (before now : ℕ) (end : Outcome) : Type 0 where
  pub first : Option Tables
  pub last : Option Tables
  pub opens : IfSome opening (λ t. first ≡ Some t)
  pub closes : IfSome opening (λ _. closing ≡ last)
  pub run : IsRun rules told port most door state first last before now end

-- the first link that waits is served, and handed back
pub record IsNext {L : Type 0} (rules : ServingRules) (told : L → Traffic) (door : DoorState L) (state : Option (DoorState L)) (old new : Option Tables) (before now : ℕ) (came : Served) : Type 0 where
  pub accepted : L
  pub back : L
  pub first : Some accepted ≡ slice_get door.waiting 0
  pub after : state ≡ Some (handed_back back (after_accept (Some accepted) door))
  pub served : WasServed rules old before (told accepted) came new now (told back)

-- what came of asking a door for its next connection
abbrev pub AsksDoor : {K D L : Type 0} → keeper.Ghosts K → door.Ghosts D L → ServingRules → (L → Traffic) → Result (Option Served) Failed → (old new : K) → (before after : D) → Type 0
AsksDoor keeps opens rules told (Ok (Some came)) old new before after =
    IfSome (opens.state before) (λ d. IsNext rules told d (opens.state after) (keeps.tables old) (keeps.tables new) (keeps.faults old) (keeps.faults new) came)
AsksDoor keeps opens rules told (Ok None) old new before after =
    (new ≡ old) × (opens.state after ≡ opens.state before) × IfSome (opens.state before) (λ d. d.waiting ≡ [])
AsksDoor keeps opens rules told (Err failed) old new before after =
    (new ≡ old) × (opens.state after ≡ opens.state before)

-- what serving leaves of a keeper and of a door, whatever they expose
pub record KeepsServing {K D L : Type 0} (keeps : keeper.Ghosts K) (opens : door.Ghosts D L) (old new : K) (before after : D) : Type 0 where
  pub tells : is_some (keeps.tables new) ≡ is_some (keeps.tables old)
  pub later : keeps.faults old ≤ keeps.faults new
  pub lent_as : keeps.lent_as new ≡ keeps.lent_as old
  pub door_later : opens.faults before ≤ opens.faults after
