use Rattle.std.proofs.Common.{◌≡◌, drop, None}
use Rattle.muni_terms.specs.Check.{calls_fault}
use Rattle.muni_terms.proofs.checks.calls_fault.Given as goal

-- the first fault of the calls left is that of all
abbrev pub invariant-loop-i : goal.invariant-loop-i
invariant-loop-i l = calls_fault l.row l.before (drop l.i l.calls) ≡ calls_fault l.row None l.calls
