use Rattle.std.proofs.Common.{◌++◌, sym, ap, ◌∙◌}
use Rattle.std.proofs.lemmas.List.{append-nil}
use Rattle.muni_position.specs.Line.{position_lines}
use Rattle.muni_position.proofs.NextLemmas.{held_of, lines_are}
use Rattle.muni_position.proofs.lines.lines_of.Goals as goal

pub returns : goal.returns
returns c versions of =
    let held = c.args.holdings.now in
    let range = c.range-cusip-items in
    let text = c.loop-cusip.text.items in
    let found = sym (append-nil text) ∙ ap (λ l. text ++ position_lines (held_of held l)) (sym c.in-None.ensures.steps.0) ∙ c.loop-cusip.invariant
    ∙ ap (λ l. position_lines (held_of held l)) c.into_iter-cusip-iterator.ensures.into_iter_gives in
    lines_are versions held range.result _ _ of range.ensures.ordered c.bound_past.ensures (range.ensures.between tt) found
