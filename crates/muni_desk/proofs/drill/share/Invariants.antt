use Rattle.std.proofs.Common.{◌≡◌, ◌*◌}
use Rattle.muni_desk.specs.Generator.{state_after}
use Rattle.muni_desk.specs.Drill.{IsShare, is_dealt}
use Rattle.muni_desk.proofs.drill.share.Given as goal

-- the sums over the worker's trades so far, and the state after the draws of all trades so far
abbrev pub invariant-loop-place : goal.invariant-loop-place
invariant-loop-place g l = record {
  state : l.generator ≡ state_after l.fn.seed (7 * l.place);
  share : IsShare (g.E.Encloser.ends l.calculator.encloser.now) (is_dealt l.workers l.worker) l.fn.seed l.place l.sums;
}
