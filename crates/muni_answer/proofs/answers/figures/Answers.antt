use Rattle.std.proofs.Common.{rules, ◌≡◌, ◌∙◌, sym, subst}
use Rattle.muni_sched.specs.Answer.{IsLowestAnswer}
use Rattle.muni_sched.specs.GivenFigure.{at_price}
use Rattle.muni_sched.specs.LowAnswers.{low_yield}
use Rattle.muni_msg.specs.declared.asked.Given.TheVariants as given
use Rattle.muni_answer.specs.Answers.{ShowsFound, IsFoundAtYield, IsFoundAtPrice, IsFoundAtRate}
use Rattle.muni_answer.specs.Trade.{net_price}
use Rattle.muni_answer.proofs.ShownLemmas.{computed-at, filled-right}
use Rattle.muni_answer.proofs.answers.figures.Goals as goal

pub returns-in-AtYield-clause-right : goal.returns-in-AtYield-clause-right
returns-in-AtYield-clause-right g c =
    let ends = g.E.Encloser.ends c.args.calculator.now.encloser.now in
    let list = c.fill_for.new.schedule.candidates in
    let shown = subst (λ l. ShowsFound (IsFoundAtYield ends c.in-AtYield.y l) c.args.issue.now c.args.asked.now c.at_yield.result) c.candidates.ensures c.at_yield.ensures.found in
    filled-right ends c.args.issue.now c.args.asked.now list c.at_yield.result c.in-Ok.ensures
    (computed-at ends c.args.issue.now c.args.asked.now (given.AtYield c.in-AtYield.y) list c.at_yield.result c.in-AtYield.is shown)

pub returns-in-AtPrice-clause-right : goal.returns-in-AtPrice-clause-right
returns-in-AtPrice-clause-right g c =
    let ends = g.E.Encloser.ends c.args.calculator.now.encloser.now in
    let list = c.fill_for.new.schedule.candidates in
    let net = net_price c.args.asked.now.side c.in-AtPrice.price c.args.asked.now.fee in
    let is : c.new-net.result ≡ net = search rules in
    let same : c.candidates-in-AtPrice.result.now ≡ list = c.candidates-in-AtPrice.ensures ∙ c.yield_to_worst-lowest.ensures.same in
    let found = low_yield c.yield_to_worst-lowest.result in
    let lowest = subst (λ l. IsLowestAnswer ends (at_price net) l found) (sym same) (subst (λ n. IsLowestAnswer ends (at_price n) list found) is c.yield_to_worst-lowest.ensures.lowest) in
    let shown = subst (λ l. ShowsFound (IsFoundAtPrice ends c.in-AtPrice.price net l) c.args.issue.now c.args.asked.now c.at_price.result) same (c.at_price.ensures.found ends lowest) in
    filled-right ends c.args.issue.now c.args.asked.now list c.at_price.result c.in-Ok.ensures
    (computed-at ends c.args.issue.now c.args.asked.now (given.AtPrice c.in-AtPrice.price) list c.at_price.result c.in-AtPrice.is shown)

pub returns-in-AtRate-clause-right : goal.returns-in-AtRate-clause-right
returns-in-AtRate-clause-right g c =
    let ends = g.E.Encloser.ends c.args.calculator.now.encloser.now in
    let list = c.fill_for.new.schedule.candidates in
    let shown = subst (λ l. ShowsFound (IsFoundAtRate c.in-AtRate.rate l) c.args.issue.now c.args.asked.now c.at_rate.result) c.candidates-in-AtRate.ensures c.at_rate.ensures.found in
    filled-right ends c.args.issue.now c.args.asked.now list c.at_rate.result c.in-Ok.ensures
    (computed-at ends c.args.issue.now c.args.asked.now (given.AtRate c.in-AtRate.rate) list c.at_rate.result c.in-AtRate.is shown)
