-- What a keeper in memory does.
use Rattle.std.specs.Prelude.{◌≡◌, ◌≤◌, ◌↔◌, ℕ, List, true, if◌then◌else◌, Result, Ok, Err, OnOk, OnErr, IsErrOf, refl}
use Rattle.std.specs.Coded.{Coded, code_by, coded×}
use Rattle.muni_edge.specs.Calls.{CallState, none_made, is_listed, after_call}
use Rattle.muni_edge.specs.contracts.calls.Calls.{the_row as calls_row}
use Rattle.muni_keep.specs.Tables.{Tables, tables_code, no_tables}
use Rattle.muni_keep.specs.declared.fault.KeepFault.{KeepFault}
use Rattle.muni_keep.specs.declared.fault.KeepFault.TheVariants.{Failed}

-- the tables, and the calls
pub record KeeperState : Type 0 where
  pub tables : Tables
  pub calls : CallState

-- how it is stored
abbrev pub keeper_code : Coded KeeperState
keeper_code =
    code_by (Tables × CallState) (coded× tables_code calls_row.coded) (λ keeper. (keeper.tables, keeper.calls)) (λ pair. record { tables = pair.0; calls = pair.1 }) (λ _. refl)

-- it keeps nothing, and no call was made
abbrev pub new_keeper : List ℕ → KeeperState
new_keeper failing = record { tables = no_tables; calls = none_made failing }

-- with no fault counted
abbrev pub uncounted : KeeperState → KeeperState
uncounted keeper = record keeper { calls = record keeper.calls { faults = 0 } }

-- after a call that reads
abbrev pub after_reading : KeeperState → KeeperState
after_reading keeper = record keeper { calls = after_call keeper.calls }

-- the answer of a call that reads: what is kept, but Failed at a listed call
abbrev pub unless_listed : {T : Type 0} → KeeperState → T → Result T KeepFault
unless_listed keeper kept = if is_listed keeper.calls then Err Failed else Ok kept

-- A call that reads answers this value of the tables, but Failed at a listed call. Nothing changes but the calls.
pub record LooksUp {T : Type 0} (result : Result T KeepFault) (kept : T) (old new : KeeperState) : Type 0 where
  pub found : result ≡ unless_listed old kept
  pub after : new ≡ after_reading old
  pub later : old.calls.faults ≤ new.calls.faults

-- A put changes the tables by this edit, or after a refusal not at all. It fails exactly at a listed call.
pub record Puts {T : Type 0} (edit : Tables → Tables) (result : Result T KeepFault) (old new : KeeperState) : Type 0 where
  pub kept : OnOk result (new.tables ≡ edit old.tables)
  pub unchanged : OnErr result (new.tables ≡ old.tables)
  pub failed : IsErrOf result Failed ↔ (is_listed old.calls ≡ true)
  pub calls : new.calls ≡ after_call old.calls
  pub later : old.calls.faults ≤ new.calls.faults
