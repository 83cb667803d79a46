use Rattle.std.proofs.Common.{◌≡◌}
use Rattle.muni_desk.specs.Generator.{state_after}
use Rattle.muni_desk.proofs.drill.generator.Generator.pass.Given as goal

abbrev pub invariant-loop-draws : goal.invariant-loop-draws
invariant-loop-draws l = record { state : l.self ≡ state_after l.initial.self l.draws }
