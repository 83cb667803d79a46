use Rattle.std.proofs.Common.{sym, subst}
use Rattle.muni_book.specs.Risk.{AreOfShape}
use Rattle.muni_book.proofs.risks.sensitivities.Goals as goal

pub returns-in-One-clause-some : goal.returns-in-One-clause-some
returns-in-One-clause-some c =
    let moves = c.single_sensitivities.ensures in
    subst (λ shape. AreOfShape shape c.args.y c.single_sensitivities.result) (sym c.in-One.is)
    (record { duration = moves.duration; convexity = moves.convexity; dv01 = moves.dv01 })

pub returns-in-AtRedemption-clause-some : goal.returns-in-AtRedemption-clause-some
returns-in-AtRedemption-clause-some c =
    let moves = c.single_sensitivities-in-AtRedemption.ensures in
    subst (λ shape. AreOfShape shape c.args.y c.single_sensitivities-in-AtRedemption.result) (sym c.in-AtRedemption.is)
    (record { duration = moves.duration; convexity = moves.convexity; dv01 = moves.dv01 })
