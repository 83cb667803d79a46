use Rattle.std.proofs.Common.{arith, ap, length, ◌∙◌, ◌++◌}
use Rattle.muni_confirm.specs.Each.{each_text}
use Rattle.muni_confirm.proofs.EachLemmas.{next-line}
use Rattle.muni_confirm.proofs.each.push_each.Goals as goal

pub loop-redemption-preserved : goal.loop-redemption-preserved
loop-redemption-preserved g c =
    let same = ap (λ line. c.loop-redemption.text.items ++ line) (c.deref.ensures.0 ∙ c.each_line.ensures.items) in
    record {
      items = next-line each_text c.args.each.now c.loop-redemption.redemption-index c.redemption-item.result c.args.text.now.items c.loop-redemption.text.items c.push.new.text.items
          c.loop-redemption-test.true c.redemption-item.is c.loop-redemption.invariant.items (c.push.ensures.items ∙ same);
      room = omega (arith, c.push.ensures.len, ap length c.deref.ensures.0, c.each_line.ensures.len, c.loop-redemption.invariant.room);
    }
