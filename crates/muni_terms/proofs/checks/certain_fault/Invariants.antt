use Rattle.std.proofs.Common.{◌≡◌, drop}
use Rattle.muni_terms.specs.Check.{certain_fault}
use Rattle.muni_terms.proofs.checks.certain_fault.Given as goal

-- the first fault of the calls left is that of all
abbrev pub invariant-loop-i : goal.invariant-loop-i
invariant-loop-i l = certain_fault (drop l.i l.calls) ≡ certain_fault l.calls
