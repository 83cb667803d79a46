use Rattle.std.proofs.Common.{◌-◌, ◌++◌, take, sym, ap, subst, ◌∙◌}
use Rattle.std.proofs.lemmas.List.{take-append-drop}
use Rattle.muni_msg.specs.Letters.{front}
use Rattle.muni_msg.proofs.LettersLemmas.{AreBytes, front-padded, taken_bytes}
use Rattle.muni_msg.proofs.names.Letters.front.Goals as goal

pub returns-clause-front : goal.returns-clause-front
returns-clause-front g c =
    let bytes = c.self.inside.bytes in
    let count = c.self.inside.count in
    c.first_eight.ensures.front ∙ ap (front 8) (sym (take-append-drop count bytes))
    ∙ ap (λ rest. front 8 (take count bytes ++ rest)) c.self.invariant.zeros ∙ front-padded 8 (take count bytes) (g.row.MOST - count) ∙ ap (front 8) c.self.view_is

pub returns-clause-bytes : goal.returns-clause-bytes
returns-clause-bytes g c = subst AreBytes c.self.view_is (taken_bytes c.self.inside.count c.self.inside.bytes c.first_eight.ensures.bytes)
