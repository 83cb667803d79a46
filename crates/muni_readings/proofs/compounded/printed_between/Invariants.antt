use Rattle.std.proofs.Common.{◌*◌, ◌-◌, ◌<◌, ◌≤◌, pos}
use Rattle.muni_rule.specs.declared.verdict.Verdict.TheVariants.{Yes, No}
use Rattle.muni_yield.specs.Places.{yield_at}
use Rattle.muni_readings.specs.Compounded.{TellsYield}
use Rattle.muni_readings.proofs.compounded.printed_between.Given as goal

-- the yield lies between two places
abbrev pub invariant-loop-high : goal.invariant-loop-high
invariant-loop-high l = record {
  from : 1 ≤ l.low;
  rising : l.low < l.high;
  to : l.high ≤ 105002;
  reached : TellsYield l.payment (pos (360000 * l.price)) (yield_at l.low) Yes;
  not_reached : TellsYield l.payment (pos (360000 * l.price)) (yield_at l.high) No;
}

abbrev pub decreases-loop-high : goal.decreases-loop-high
decreases-loop-high l = l.high - l.low
