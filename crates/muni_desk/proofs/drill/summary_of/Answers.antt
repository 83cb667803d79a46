use Rattle.std.proofs.Common.{subst}
use Rattle.muni_desk.specs.Drill.{IsSummed}
use Rattle.muni_desk.proofs.DrillLemmas.{summary-shown}
use Rattle.muni_desk.proofs.drill.summary_of.Goals as goal

pub returns : goal.returns
returns g c =
    let ends = g.E.Encloser.ends c.args.calculator.now.encloser.now in
    let summed = subst (λ count. IsSummed ends c.args.request.seed count c.sums_of-sums.result) c.trades.ensures.value c.sums_of-sums.ensures in
    summary-shown ends c.args.request c.sums_of-sums.result c.lines.result.items summed c.lines.ensures
