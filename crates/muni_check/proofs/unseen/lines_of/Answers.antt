use Rattle.std.proofs.Common.{◌+◌, ◌∙◌, ◌∷◌, ◌++◌, [], sym, ap, append_assoc, drop, length, arith}
use Rattle.std.proofs.lemmas.List.{length-append}
use Rattle.muni_check_rows.specs.Line.{unseen_lines}
use Rattle.muni_check.specs.Named.{has}
use Rattle.muni_check.specs.Unseen.{unseen_of}
use Rattle.muni_check.proofs.UnseenLemmas.{unseen-next}
use Rattle.muni_check.proofs.WriteLemmas.{lines-of-more}
use Rattle.muni_check.proofs.unseen.lines_of.Goals as goal

pub loop-trade-preserved : goal.loop-trade-preserved
loop-trade-preserved c =
    let inv = c.loop-trade.invariant in
    let named = has c.args.named.now in
    let one = unseen_of named (c.trade-item.result ∷ []) in
    let rest = unseen_of named (drop (c.loop-trade.trade-index + 1) c.args.page.now) in
    let next = unseen-next named c.args.page.now c.loop-trade.trade-index c.trade-item.result (omega (arith, c.loop-trade-test.true)) c.trade-item.is in
    let added = c.in_ok-add_unseen.ensures in
    record {
      text = ap (λ l. l ++ unseen_lines rest) added.text ∙ append_assoc c.loop-trade.lines.text.items (unseen_lines one) (unseen_lines rest)
          ∙ ap (λ l. c.loop-trade.lines.text.items ++ l) (sym (lines-of-more one rest))
          ∙ ap (λ l. c.loop-trade.lines.text.items ++ unseen_lines l) (sym next) ∙ inv.text;
      count = omega (arith, inv.count, added.count, ap length next, length-append one rest);
      few = omega (arith, inv.few, added.few);
    }
