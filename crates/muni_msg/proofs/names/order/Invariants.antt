use Rattle.std.proofs.Common.{◌≡◌, drop}
use Rattle.std.specs.Ordering.{nat_cmp}
use Rattle.std.specs.Cmp.Lexicographic.{slice_cmp}
use Rattle.muni_msg.proofs.names.order.Given as goal

-- what the bytes from a place on answer, the whole names answer
abbrev pub invariant-loop-place : goal.invariant-loop-place
invariant-loop-place l = slice_cmp nat_cmp (drop l.place l.first) (drop l.place l.second) ≡ slice_cmp nat_cmp l.first l.second
