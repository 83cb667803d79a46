use Rattle.std.proofs.Common.{arith, ◌-◌}
use Rattle.std.proofs.lemmas.Grind.{common_steps}
use Rattle.muni_edge.proofs.sink.MemSinkSink.put.Goals as goal

pub returns-then-piece-left-clause-part : goal.returns-then-piece-left-clause-part
returns-then-piece-left-clause-part c =
    (c.self.inside.room - c.len.result, grind (arith, common_steps))
