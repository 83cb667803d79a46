-- What is known of tables that are exposed.
use Rattle.std.proofs.Common.{◌≡◌, Option, Some, None, Result, Ok, Err}
use Rattle.std.specs.Prelude.{IfOk, IfSome, OnOk}
use Rattle.muni_keep.specs.Tables.{Tables}
use Rattle.muni_keep.specs.declared.fault.KeepFault.{KeepFault}
use Rattle.muni_check_rows.specs.Said.{ByKept}
use Rattle.muni_check_rows.specs.declared.said.CheckSaid.{CheckSaid}

pub if-told : (told : Option Tables) (P Q : Tables → Type 0) → ((tables : Tables) → P tables → Q tables) → IfSome told P → IfSome told Q
if-told None P Q more holds = tt
if-told (Some tables) P Q more holds = more tables holds

pub if-always : (told : Option Tables) (P : Tables → Type 0) → ((tables : Tables) → P tables) → IfSome told P
if-always None P holds = tt
if-always (Some tables) P holds = holds tables

-- what is said by what was found is said by what is kept
pub if-kept : {A : Type 0} (result : Result CheckSaid KeepFault) (told : Option Tables) (kept : Tables → A) (Is : A → CheckSaid → Type 0) (found : A) → IfSome told (λ tables. found ≡ kept tables)
    → IfOk result (Is found) → IfOk result (λ said. ByKept told kept (λ a. Is a said))
if-kept (Ok said) told kept Is found agrees is = (found, agrees, is)
if-kept (Err fault) told kept Is found agrees is = tt

-- what holds whatever the answer is
pub ok-always : {T E : Type 0} (result : Result T E) (P : Type 0) → P → OnOk result P
ok-always (Ok value) P holds = holds
ok-always (Err fault) P holds = tt
