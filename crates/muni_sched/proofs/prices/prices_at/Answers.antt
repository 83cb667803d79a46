use Rattle.std.proofs.Common.{rules, [], ◌∷◌, ◌++◌}
use Rattle.std.proofs.lemmas.List.Elements.{All-push, All-same}
use Rattle.muni_sched.specs.PriceOutcome.{IsPriceAt, IsPrintable}
use Rattle.muni_sched.proofs.ZipLemmas.{zip-next}
use Rattle.muni_sched.proofs.prices.prices_at.Goals as goal

pub loop-candidate-preserved : goal.loop-candidate-preserved
loop-candidate-preserved g c =
    let ends = g.E.Encloser.ends c.args.encloser.now in
    let price = c.price_at.result in
    let so_far = c.loop-candidate.invariant in
    record {
      each = zip-next (IsPriceAt ends c.args.y) c.args.list.now c.loop-candidate.candidate-index c.candidate-item.result c.loop-candidate.prices.items c.push.new.self.items price
          c.loop-candidate-test.true c.candidate-item.is so_far.each c.price_at.ensures.outcome c.push.ensures.items;
      range = All-same IsPrintable c.push.new.self.items (c.loop-candidate.prices.items ++ price ∷ []) c.push.ensures.items (All-push IsPrintable c.loop-candidate.prices.items price so_far.range c.price_at.ensures.range);
      room = search rules;
    }
