-- The numbers of the faults.
use Rattle.std.specs.Prelude.{ℕ}
use Rattle.muni_dec.specs.declared.fault.DecFault.{DecFault}
use Rattle.muni_dec.specs.declared.fault.DecFault.TheVariants.{Empty, NotADigit, TooManyDecimals, OutOfRange}

abbrev pub fault_number : DecFault → ℕ
fault_number Empty = 1
fault_number (NotADigit at) = 2
fault_number (TooManyDecimals at) = 3
fault_number OutOfRange = 4
