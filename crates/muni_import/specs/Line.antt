-- The fields of a line, each after a comma.
use Rattle.std.specs.Prelude.{ℕ, List, [], ◌∷◌, ◌++◌, codes, decimal}
use Rattle.muni_msg.specs.Refusal.{name_of}
use Rattle.muni_import.specs.Fault.{fault_number}
use Rattle.muni_import.specs.declared.row.RowFault.{RowFault}
use Rattle.muni_import.specs.declared.row.RowFault.TheVariants.{FieldCount, BadField}

-- fields with a comma before each
abbrev pub behind_commas : List (List ℕ) → List ℕ
behind_commas [] = []
behind_commas (field ∷ fields) = 44 ∷ field ++ behind_commas fields

-- a refusal, by its number and its name
unfoldable pub refused_fields : ℕ → List ℕ
refused_fields number = behind_commas (codes "refused" ∷ decimal number ∷ name_of number ∷ [])

-- the column that does not read
abbrev pub column_field : RowFault → List (List ℕ)
column_field FieldCount = []
column_field (BadField column) = decimal column ∷ []

-- a row that does not read, by the number of its fault
unfoldable pub bad_fields : RowFault → List ℕ
bad_fields fault = behind_commas (codes "bad" ∷ decimal (fault_number fault) ∷ column_field fault)
