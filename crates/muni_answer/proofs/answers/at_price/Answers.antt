use Rattle.std.proofs.Common.{rules, ◌≡◌, ◌<◌, ◌/◌, length, Some, Ok, Err, refl}
use Rattle.std.specs.List.{slice_get}
use Rattle.std.proofs.lemmas.Option.{slice_get_read}
use Rattle.muni_sched.specs.LowAnswers.{low_yield}
use Rattle.muni_answer.specs.Answers.{PriceAndYield, IsFoundAtPrice, found_at_price}
use Rattle.muni_answer.specs.Trade.{net_price}
use Rattle.muni_answer.proofs.ShownLemmas.{figures-shown, refusal-shown}
use Rattle.muni_answer.proofs.answers.at_price.Goals as goal

pub returns-in-Ok-clause-found : goal.returns-in-Ok-clause-found
returns-in-Ok-clause-found c = λ ends lowest.
    let net = net_price c.args.asked.now.side c.args.price c.args.asked.now.fee in
    let list = c.args.list.now in
    let found : PriceAndYield = record { price = c.args.price / 1000; yld = c.in-Ok.lowest.yld; redemption = c.index-list-lowest.result } in
    let inside : c.in-Ok.lowest.candidate < length list = search rules in
    let there : slice_get list c.in-Ok.lowest.candidate ≡ Some c.index-list-lowest.result = slice_get_read list (length list) c.in-Ok.lowest.candidate c.index-list-lowest.result refl inside c.index-list-lowest.is in
    let is : IsFoundAtPrice ends c.args.price net list (Ok found) = (low_yield c.args.lowest, lowest, rw (c.in-Ok.is, there) refl) in
    figures-shown (IsFoundAtPrice ends c.args.price net list) c.args.issue.now c.args.asked.now found c.figures_of.result is c.figures_of.ensures.days (search rules)

pub returns-in-Err-clause-found : goal.returns-in-Err-clause-found
returns-in-Err-clause-found c = λ ends lowest.
    let net = net_price c.args.asked.now.side c.args.price c.args.asked.now.fee in
    let list = c.args.list.now in
    let why : Some (Err c.no_yield.result) ≡ found_at_price c.args.price list (low_yield c.args.lowest) = search rules in
    refusal-shown (IsFoundAtPrice ends c.args.price net list) c.args.issue.now c.args.asked.now c.no_yield.result (low_yield c.args.lowest, lowest, why)
