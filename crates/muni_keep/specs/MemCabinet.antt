-- What a cabinet in memory does.
use Rattle.std.specs.Prelude.{ℕ, List, [], Option, Some, None, refl}
use Rattle.std.specs.Option.{unwrap_or}
use Rattle.std.specs.Coded.{Coded, code_by, coded×, coded_ℕ, coded_list, coded_option}
use Rattle.std.specs.FinMap.{FinMap, get, insert, from_entries, code as map_code}
use Rattle.muni_edge.specs.Calls.{CallState, none_made, after_call, raised}
use Rattle.muni_edge.specs.contracts.calls.Calls.{the_row as calls_row}
use Rattle.muni_keep.specs.Trades.{by_bytes}
use Rattle.muni_keep.specs.Tables.{Tables}
use Rattle.muni_keep.specs.MemKeeper.{KeeperState, keeper_code, new_keeper}

-- keepers by name
abbrev pub Keepers : Type 0
Keepers = FinMap by_bytes KeeperState

-- the keepers, of which one may be out and leaves a new one in its place; its name; and the calls
pub record CabinetState : Type 0 where
  pub keepers : Keepers
  pub out : Option (List ℕ)
  pub calls : CallState

-- how they are stored
abbrev pub keepers_code : Coded Keepers
keepers_code = map_code (coded_list coded_ℕ) keeper_code

abbrev pub cabinet_code : Coded CabinetState
cabinet_code =
    code_by ((Keepers × Option (List ℕ)) × CallState) (coded× (coded× keepers_code (coded_option (coded_list coded_ℕ))) calls_row.coded) (λ cabinet. ((cabinet.keepers, cabinet.out), cabinet.calls)) (λ pair. record { keepers = pair.0.0; out = pair.0.1; calls = pair.1 }) (λ _. refl)

-- it has these keepers under their names, none is out, and no call was made
abbrev pub new_cabinet : List (List ℕ × KeeperState) → List ℕ → CabinetState
new_cabinet keepers failing =
    record { keepers = from_entries keepers; out = None; calls = none_made failing }

-- the keeper of a name, which is new if there is none yet
abbrev pub keeper_at : Keepers → List ℕ → KeeperState
keeper_at keepers name = unwrap_or (get keepers name) (new_keeper [])

-- the tables under a name
abbrev pub tables_at : CabinetState → List ℕ → Tables
tables_at cabinet name = (keeper_at cabinet.keepers name).tables

-- the keeper of a name is out
abbrev pub after_fetch : List ℕ → CabinetState → CabinetState
after_fetch name cabinet =
    record {
      keepers = insert cabinet.keepers name (new_keeper []);
      out = Some name;
      calls = after_call cabinet.calls;
    }

-- a fetch was refused
abbrev pub after_refusal : CabinetState → CabinetState
after_refusal cabinet = record cabinet { calls = after_call cabinet.calls }

-- the keeper of a name was given back
abbrev pub given_back : List ℕ → KeeperState → CabinetState → CabinetState
given_back name keeper cabinet =
    record {
      keepers = insert cabinet.keepers name keeper;
      out = None;
      calls = record cabinet.calls { faults = raised cabinet.calls.faults keeper.calls.faults };
    }
