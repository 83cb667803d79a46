use Rattle.std.proofs.Common.{ap, ◌∙◌, arith}
use Rattle.muni_position.specs.Holding.{plus}
use Rattle.muni_position.specs.Holdings.{kept}
use Rattle.muni_position.specs.declared.holding.Holding.{Holding}
use Rattle.muni_position.proofs.SumLemmas.{added, share_one}
use Rattle.muni_position.proofs.pages.add.Goals as goal

pub returns-clause-sums : goal.returns-clause-sums
returns-clause-sums c = λ other.
    added c.args.holdings.now c.make_room.new.holdings c.set.new.holdings c.args.version.now c.plus-sum.result other (c.make_room.ensures.same other) (c.set.ensures.kept other)
    (c.plus-sum.ensures.value ∙ ap (λ k. plus k c.share-more.result) c.kept.ensures ∙ ap (plus (kept c.args.holdings.now c.args.version.now.terms.asked.cusip)) c.share-more.ensures.value)

pub returns-clause-few : goal.returns-clause-few
returns-clause-few c = λ other.
    let sum = added c.args.holdings.now c.make_room.new.holdings c.set.new.holdings c.args.version.now c.plus-sum.result other (c.make_room.ensures.same other) (c.set.ensures.kept other)
    (c.plus-sum.ensures.value ∙ ap (λ k. plus k c.share-more.result) c.kept.ensures ∙ ap (plus (kept c.args.holdings.now c.args.version.now.terms.asked.cusip)) c.share-more.ensures.value) in
    let live = ap (λ (h : Holding). h.live) sum in
    let one = share_one other c.args.version.now in
    omega arith
