-- What a command over a store is lent: an input, an output and the cabinet of the store.
use Rattle.std.specs.Prelude.{◌≡◌, List, ℕ, IfSome}
use Rattle.muni_edge.specs.declared.source.Source as Source
use Rattle.muni_keep.specs.declared.cabinet.Cabinet as Cabinet
use Rattle.muni_keep.specs.Tables.{Tables}

pub record Lent (I O C : Type 0) : Type 0 where
  pub input : I
  pub output : O
  pub cabinet : C

abbrev pub lent : {I O C : Type 0} → I → O → C → Lent I O C
lent input output cabinet = record { input = input; output = output; cabinet = cabinet }

-- a fact of what is left in the input and of the tables of the store, if both are exposed
abbrev pub IfExposed : {I O C K : Type 0} → Source.Ghosts I → Cabinet.Ghosts C K → List ℕ → Lent I O C → (List ℕ → Tables → Type 0) → Type 0
IfExposed source cabinet store old Holds =
    IfSome (source.left old.input) (λ text. IfSome (cabinet.told old.cabinet store) (λ tables. Holds text tables))

-- the output and the cabinet are as they were
abbrev pub ChangesOnlyInput : {I O C : Type 0} → Lent I O C → Lent I O C → Type 0
ChangesOnlyInput old new = (new.output ≡ old.output) × (new.cabinet ≡ old.cabinet)
