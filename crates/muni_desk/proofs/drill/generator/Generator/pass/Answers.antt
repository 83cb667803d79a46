use Rattle.std.proofs.Common.{◌≡◌, refl, ap, ◌∙◌, arith}
use Rattle.muni_desk.specs.Generator.{state_after}
use Rattle.muni_desk.proofs.GeneratorLemmas.{one-draw}
use Rattle.muni_desk.proofs.drill.generator.Generator.pass.Goals as goal

pub loop-draws-init : goal.loop-draws-init
loop-draws-init c = record { state = refl }

pub loop-draws-preserved : goal.loop-draws-preserved
loop-draws-preserved c = record { state = one-draw c.args.self.now c.loop-draws.draws c.loop-draws.self c.draw.new.self c.loop-draws.invariant.state c.draw.ensures.state }

pub returns : goal.returns
returns c =
    let all : c.loop-draws.draws ≡ 7 = omega arith in
    c.loop-draws.invariant.state ∙ ap (state_after c.args.self.now) all
