use Rattle.std.proofs.Common.{◌≡◌, ◌≤◌, map}
use Rattle.arrayvec.specs.ArrayVec.{array_vec_len}
use Rattle.muni_days.specs.Day.{civil}
use Rattle.muni_terms.specs.Issue.{entry_of}
use Rattle.muni_desk.specs.Generator.{calls_before}
use Rattle.muni_desk.proofs.drill.generator.calls_before.Given as goal

-- the calls at the places so far
abbrev pub invariant-loop-place : goal.invariant-loop-place
invariant-loop-place l = record {
  read : map entry_of l.calls.items ≡ calls_before (civil l.maturity) l.place;
  room : array_vec_len l.calls ≤ l.place;
}
