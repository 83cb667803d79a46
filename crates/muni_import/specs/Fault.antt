-- The numbers of the faults of a row.
use Rattle.std.specs.Prelude.{ℕ}
use Rattle.muni_import.specs.declared.row.RowFault.{RowFault}
use Rattle.muni_import.specs.declared.row.RowFault.TheVariants.{FieldCount, BadField}

abbrev pub fault_number : RowFault → ℕ
fault_number FieldCount = 1
fault_number (BadField column) = 2
