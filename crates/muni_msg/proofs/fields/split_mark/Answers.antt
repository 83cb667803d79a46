use Rattle.std.proofs.Common.{◌≡◌, ◌∙◌, Some, None, refl, sym}
use Rattle.std.specs.List.{last_or}
use Rattle.std.proofs.lemmas.Bool.{ne_eqb}
use Rattle.muni_msg.proofs.MarkLemmas.{last-got}
use Rattle.muni_msg.proofs.fields.split_mark.Goals as goal

pub returns-then-mark-eq43 : goal.returns-then-mark-eq43
returns-then-mark-eq43 c =
    let text = c.args.text.now in
    let last : last_or None text ≡ Some c.in-Some.mark.now = last-got text ∙ sym c.in-Some.ensures.value in
    rw (last, c.if-mark-eq43.true) refl

pub returns-then-mark-eq33 : goal.returns-then-mark-eq33
returns-then-mark-eq33 c =
    let text = c.args.text.now in
    let last : last_or None text ≡ Some c.in-Some.mark.now = last-got text ∙ sym c.in-Some.ensures.value in
    rw (last, c.if-mark-eq33.true) refl

pub returns-else-mark-eq33 : goal.returns-else-mark-eq33
returns-else-mark-eq33 c =
    let text = c.args.text.now in
    let last : last_or None text ≡ Some c.in-Some.mark.now = last-got text ∙ sym c.in-Some.ensures.value in
    let mark = c.in-Some.mark.now in
    let plus = ne_eqb mark 43 c.if-mark-eq43.false in
    let called = ne_eqb mark 33 c.if-mark-eq33.false in
    rw (last, plus, called) refl
