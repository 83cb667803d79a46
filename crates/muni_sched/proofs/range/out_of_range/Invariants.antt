use Rattle.std.proofs.Common.{◌≡◌, drop}
use Rattle.muni_sched.specs.Range.{side_of_first}
use Rattle.muni_sched.proofs.range.out_of_range.Given as goal

-- the candidates left decide as all do
abbrev pub invariant-loop-candidate : goal.invariant-loop-candidate
invariant-loop-candidate l =
    side_of_first l.y (drop l.candidate-index l.list) ≡ side_of_first l.y l.list
