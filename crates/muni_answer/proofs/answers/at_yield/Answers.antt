use Rattle.std.proofs.Common.{rules, ◌≡◌, ◌<◌, length, Some, Ok, Err, refl}
use Rattle.std.specs.List.{slice_get}
use Rattle.std.proofs.lemmas.Option.{slice_get_read}
use Rattle.muni_rule.specs.Accuracy.{rounded_yield}
use Rattle.muni_sched.specs.LowAnswers.{low_price}
use Rattle.muni_answer.specs.Answers.{PriceAndYield, IsFoundAtYield}
use Rattle.muni_answer.proofs.ShownLemmas.{figures-shown, refusal-shown}
use Rattle.muni_answer.proofs.CandidateLemmas.{first-rounded}
use Rattle.muni_answer.proofs.answers.at_yield.Goals as goal

pub round_yield-requires : goal.round_yield-requires
round_yield-requires g c = first-rounded c.args.y c.args.list.now c.requires.askable.some (search rules) (search rules)

pub returns-in-Ok-clause-found : goal.returns-in-Ok-clause-found
returns-in-Ok-clause-found g c =
    let ends = g.E.Encloser.ends c.args.encloser.now in
    let list = c.args.list.now in
    let found : PriceAndYield = record { price = c.in-Ok.lowest.price; yld = rounded_yield c.args.y; redemption = c.index-list-lowest.result } in
    let inside : c.in-Ok.lowest.candidate < length list = search rules in
    let there : slice_get list c.in-Ok.lowest.candidate ≡ Some c.index-list-lowest.result = slice_get_read list (length list) c.in-Ok.lowest.candidate c.index-list-lowest.result refl inside c.index-list-lowest.is in
    let is : IsFoundAtYield ends c.args.y list (Ok found) = (low_price c.price_to_worst.result, c.price_to_worst.ensures, rw (c.in-Ok.is, there) refl) in
    figures-shown (IsFoundAtYield ends c.args.y list) c.args.issue.now c.args.asked.now found c.figures_of.result is c.figures_of.ensures.days (search rules)

pub returns-in-Err-clause-found : goal.returns-in-Err-clause-found
returns-in-Err-clause-found g c =
    let ends = g.E.Encloser.ends c.args.encloser.now in
    let is : IsFoundAtYield ends c.args.y c.args.list.now (Err c.no_price.result) = search rules in
    refusal-shown (IsFoundAtYield ends c.args.y c.args.list.now) c.args.issue.now c.args.asked.now c.no_price.result is
