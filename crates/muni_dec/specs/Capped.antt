-- What is read, if numbers past a limit are all one.
use Rattle.std.specs.Prelude.{ℕ, suc, min, Result, Ok, Err, ℤ, pos, negsuc, neg_ℤ}
use Rattle.muni_dec.specs.declared.fault.DecFault.{DecFault}

-- what was read, with a number past the limit as the limit
abbrev pub capped : ℕ → Result ℕ DecFault → Result ℕ DecFault
capped limit (Ok units) = Ok (min limit units)
capped limit (Err fault) = Err fault

-- the same on both sides of zero
abbrev pub capped_signed : ℕ → Result ℤ DecFault → Result ℤ DecFault
capped_signed limit (Ok (pos units)) = Ok (pos (min limit units))
capped_signed limit (Ok (negsuc less)) = Ok (neg_ℤ (pos (min limit (suc less))))
capped_signed limit (Err fault) = Err fault
