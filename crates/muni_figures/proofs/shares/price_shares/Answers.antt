use Rattle.std.proofs.Common.{subst, get_or}
use Rattle.std.specs.BTreeMap as tree
use Rattle.muni_keep.specs.Trades.{by_bytes}
use Rattle.muni_answer.specs.Answers.{IsRightAnswer}
use Rattle.muni_figures.specs.Said.{IsSaid}
use Rattle.muni_figures.specs.Shares.{IsPricedShare}
use Rattle.muni_figures.proofs.ShareLemmas.{zip-by-place}
use Rattle.muni_figures.proofs.shares.price_shares.Goals as goal

pub returns : goal.returns
returns g c =
    let priced = IsPricedShare (IsSaid (IsRightAnswer (g.E.Encloser.ends c.args.calculator.now.encloser.now)) c.args.has_risk (tree.get by_bytes c.args.issues.now)) in
    zip-by-place priced c.args.shares.now c.for_each_mut.new.s c.for_each_mut.auto.s
    (λ i d within. let change = (c.for_each_mut.ensures i d within).1 in
    subst (λ old. priced old (get_or c.for_each_mut.new.s i d)) change.argument_is (subst (priced change.argument.now) change.left change.call))
