use Rattle.std.proofs.Common.{◌≡◌, ◌++◌}
use Rattle.muni_position.specs.Line.{position_lines}
use Rattle.muni_position.proofs.NextLemmas.{held_of}
use Rattle.muni_position.proofs.lines.lines_of.Given as goal

-- with the lines to come it is all lines
abbrev pub invariant-loop-cusip : goal.invariant-loop-cusip
invariant-loop-cusip l =
    l.text.items ++ position_lines (held_of l.holdings l.cusip-iterator) ≡ position_lines (held_of l.holdings l.initial.cusip-iterator)
