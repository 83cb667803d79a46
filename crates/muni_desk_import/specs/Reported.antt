-- What an import writes, as far as it hangs on its rows alone. So this is known of a store that exposes no tables.
use Rattle.std.specs.Prelude.{◌≡◌, ⊤, ◌++◌, ◌∷◌, [], List, ℕ, Option, Result, Ok, Err}
use Rattle.std.specs.List.{AllZip}
use Rattle.muni_edge.specs.Sink.{HasWritten}
use Rattle.muni_import.specs.Report.{Said}
use Rattle.muni_import.specs.Row.{Row}
use Rattle.muni_import.specs.Rows.{rows_of}
use Rattle.muni_desk_io.specs.declared.fault.Fault.{Fault}
use Rattle.muni_desk_io.specs.declared.fault.Fault.TheVariants.{Read, Write, Store, NoMemory, TooLarge}
use Rattle.muni_desk_import.specs.Import.{report, WroteTo}

-- of a command a reply is said, and of a row that is none its own fault
abbrev pub IsSaidOf : Row → Said → Type 0
IsSaidOf (Ok command) (Ok reply) = ⊤
IsSaidOf (Err fault) (Err said) = said ≡ fault
IsSaidOf (Ok command) (Err said) = ⊥
IsSaidOf (Err fault) (Ok reply) = ⊥

-- a line on each of these rows was written, in their order and with their places, of which this is the first
pub record ReportsRowsAt (place : ℕ) (rows : List Row) (had has : Option (List ℕ)) : Type 0 where
  pub said : List Said
  pub each : AllZip IsSaidOf rows said
  pub written : HasWritten had has (report place said)

abbrev pub ReportsRows : List Row → (had has : Option (List ℕ)) → Type 0
ReportsRows rows had has = ReportsRowsAt 1 rows had has

-- on the first rows of a text
pub record ReportsFirst (text : List ℕ) (had has : Option (List ℕ)) : Type 0 where
  pub rows : List Row
  pub left : List Row
  pub all : rows ++ left ≡ rows_of text
  pub reports : ReportsRows rows had has

-- on the first rows of a text, and a part of the line on the one after them
pub record ReportsPart (text : List ℕ) (had has : Option (List ℕ)) : Type 0 where
  pub rows : List Row
  pub row : Row
  pub left : List Row
  pub said : List Said
  pub last : Said
  pub all : rows ++ row ∷ left ≡ rows_of text
  pub each : AllZip IsSaidOf (rows ++ row ∷ []) (said ++ last ∷ [])
  pub written : WroteTo said last had has

-- by how the import ends
abbrev pub Reported : {T : Type 0} → (text : List ℕ) → Result T Fault → (had has : Option (List ℕ)) → Type 0
Reported text (Ok done) had has = ReportsRows (rows_of text) had has
Reported text (Err Store) had has = ReportsFirst text had has
Reported text (Err NoMemory) had has = ReportsFirst text had has
Reported text (Err Write) had has = ReportsPart text had has
Reported text (Err Read) had has = has ≡ had
Reported text (Err TooLarge) had has = has ≡ had
