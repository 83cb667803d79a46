use Rattle.std.proofs.Common.{ap, sym, ◌∙◌}
use Rattle.std.specs.Ordering.{nat_cmp}
use Rattle.muni_msg.specs.Letters.{front}
use Rattle.muni_msg.proofs.LettersLemmas.{fronts_decide}
use Rattle.muni_msg.proofs.names.LettersOrd.cmp.Goals as goal

pub returns-then-first-second : goal.returns-then-first-second
returns-then-first-second g c =
    let first = c.front-first.ensures.front in
    let second = c.front-second.ensures.front in
    c.cmp.ensures ∙ ap (λ n. nat_cmp n c.front-second.result) first ∙ ap (nat_cmp (front 8 c.args.self.now)) second
    ∙ fronts_decide 8 c.args.self.now c.args.other.now c.front-first.ensures.bytes c.front-second.ensures.bytes (λ same. c.if-first-second.true (first ∙ same ∙ sym second))
