-- The numbers of the faults that a text of a day can have.
use Rattle.std.specs.Prelude.{ℕ}
use Rattle.muni_days.specs.declared.day.DayFault.{DayFault}
use Rattle.muni_days.specs.declared.day.DayFault.TheVariants.{Form, NoSuchDay}

-- each fault has a number of its own
abbrev pub fault_number : DayFault → ℕ
fault_number Form = 1
fault_number NoSuchDay = 2
