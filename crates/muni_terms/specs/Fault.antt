-- The numbers of the faults that terms can have.
use Rattle.std.specs.Prelude.{ℕ}
use Rattle.muni_terms.specs.declared.row.TermsFault.{TermsFault}
use Rattle.muni_terms.specs.declared.row.TermsFault.TheVariants.{BadCusip, BadOrder, BadDay, BadCoupon, FirstTooLong, CallOffCalendar, CallsNotRising, BadCallPrice, TooLong, BadName, BadBasis, CalledNotLast}

-- each fault has a number of its own, which the desk prints
abbrev pub fault_number : TermsFault → ℕ
fault_number BadCusip = 1
fault_number BadOrder = 2
fault_number BadDay = 3
fault_number BadCoupon = 4
fault_number FirstTooLong = 5
fault_number (CallOffCalendar date) = 6
fault_number (CallsNotRising date) = 7
fault_number (BadCallPrice date) = 8
fault_number TooLong = 9
fault_number BadName = 10
fault_number BadBasis = 11
fault_number (CalledNotLast date) = 12
