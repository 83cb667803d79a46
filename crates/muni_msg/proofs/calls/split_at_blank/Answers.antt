use Rattle.std.proofs.Common.{◌≡◌, ◌+◌, ◌-◌, ◌∙◌, length, take, drop, sym, ap}
use Rattle.std.proofs.Math.Seq.{take-length}
use Rattle.std.proofs.lemmas.List.{length-drop}
use Rattle.muni_msg.proofs.BlankLemmas.{cut_at}
use Rattle.muni_msg.proofs.calls.split_at_blank.Goals as goal

pub returns-in-Some : goal.returns-in-Some
returns-in-Some c =
    let text = c.args.text.now in
    let next = c.in-Some.blank + 1 in
    let behind : take (length text - next) (drop next text) ≡ drop next text =
    ap (λ count. take count (drop next text)) (sym (length-drop next text)) ∙ take-length (drop next text) in
    rw behind (cut_at text c.in-Some.blank (sym c.find.ensures.place ∙ c.in-Some.is))
