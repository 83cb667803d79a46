use Rattle.muni_position.specs.Line.{position_line}
use Rattle.muni_position.proofs.LineLemmas.{six_parts}
use Rattle.muni_position.proofs.line.position_line.Goals as goal

pub returns-clause-items : goal.returns-clause-items
unfolding position_line
returns-clause-items c =
    rw (c.push-2.ensures.items, c.push_money.ensures.items, c.push_par_left.ensures.items, c.push_number-3.ensures.items, c.push_number-2.ensures.items, c.push_number.ensures.items, c.push.ensures.items, c.clear.ensures)
    (six_parts _ _ _ _ _ _)
