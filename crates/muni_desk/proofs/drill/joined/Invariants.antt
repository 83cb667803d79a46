use Rattle.std.proofs.Common.{length}
use Rattle.muni_desk.specs.Drill.{IsShare}
use Rattle.muni_desk.proofs.DrillLemmas.{is_among}
use Rattle.muni_desk.proofs.drill.joined.Given as goal

-- the sums of the workers so far
abbrev pub invariant-loop-worker : goal.invariant-loop-worker
invariant-loop-worker g l = IsShare (g.E.Encloser.ends l.encloser) (is_among (length l.shares) l.worker) l.fn.seed l.fn.count l.sums
