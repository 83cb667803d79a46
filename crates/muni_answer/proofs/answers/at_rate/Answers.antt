use Rattle.std.proofs.Common.{rules}
use Rattle.muni_rule.specs.Accuracy.{TruncatesBy, Reaches}
use Rattle.muni_rule.specs.Discount.{discount_price}
use Rattle.muni_simple.specs.declared.yields.SimpleYield.TheVariants.{Print, NoTime}
use Rattle.muni_msg.specs.declared.refusal.Refusal.TheVariants as refusal
use Rattle.muni_answer.specs.Answers.{PriceAndYield, IsReturn, IsFoundAtRate}
use Rattle.muni_answer.proofs.ShownLemmas.{figures-shown, refusal-shown}
use Rattle.muni_answer.proofs.CandidateLemmas.{found-at_rate}
use Rattle.muni_answer.proofs.answers.at_rate.Goals as goal

pub returns-in-Print-clause-found : goal.returns-in-Print-clause-found
returns-in-Print-clause-found c =
    let days = c.days_left-days.result.days in
    let basis = c.days_left-days.result.basis in
    let exact : IsReturn basis days (discount_price basis c.args.rate days) (Print c.in-Print.yld) = search rules in
    let truncated : TruncatesBy basis (Reaches (discount_price basis c.args.rate days)) c.rate_price-price.result = search rules in
    let is = found-at_rate c.args.rate days basis c.args.list.now c.index-list-0.result c.rate_price-price.result (Print c.in-Print.yld) c.requires.askable.some c.index-list-0.is c.days_left-days.ensures.shape truncated exact in
    let found : PriceAndYield = record { price = c.rate_price-price.result; yld = c.in-Print.yld; redemption = c.index-list-0.result } in
    figures-shown (IsFoundAtRate c.args.rate c.args.list.now) c.args.issue.now c.args.asked.now found c.figures_of.result is c.figures_of.ensures.days c.figures_of.ensures.figures

pub returns-in-NoTime-clause-found : goal.returns-in-NoTime-clause-found
returns-in-NoTime-clause-found c =
    let days = c.days_left-days.result.days in
    let basis = c.days_left-days.result.basis in
    let exact : IsReturn basis days (discount_price basis c.args.rate days) NoTime = search rules in
    let truncated : TruncatesBy basis (Reaches (discount_price basis c.args.rate days)) c.rate_price-price.result = search rules in
    refusal-shown (IsFoundAtRate c.args.rate c.args.list.now) c.args.issue.now c.args.asked.now (refusal.NoTime c.index-list-0.result.date)
    (found-at_rate c.args.rate days basis c.args.list.now c.index-list-0.result c.rate_price-price.result NoTime c.requires.askable.some c.index-list-0.is c.days_left-days.ensures.shape truncated exact)
