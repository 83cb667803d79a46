use Rattle.std.proofs.Common.{rules, refl}
use Rattle.muni_sched.proofs.ZipLemmas.{zip-next}
use Rattle.muni_msg.specs.declared.each.EachRedemption.{EachRedemption}
use Rattle.muni_book.specs.Each.{IsAnswerAlone, IsShownAlone}
use Rattle.muni_book.proofs.each.each_of.Goals as goal

pub loop-candidate-preserved : goal.loop-candidate-preserved
loop-candidate-preserved g c =
    let Such = IsShownAlone (IsAnswerAlone (g.E.Encloser.ends c.args.calculator.now.encloser.now)) c.args.asked.now c.args.figures.now in
    let candidate = c.candidate-item.result in
    let shown : EachRedemption = record { date = candidate.date; price = candidate.price; label = candidate.label; figure = c.figure_alone.result } in
    record {
      each = zip-next Such c.args.list.now c.loop-candidate.candidate-index candidate c.loop-candidate.each.items c.push.new.self.items shown
          c.loop-candidate-test.true c.candidate-item.is c.loop-candidate.invariant.each (record { date = refl; price = refl; label = refl; alone = c.figure_alone.ensures }) c.push.ensures.items;
      room = search rules;
    }
