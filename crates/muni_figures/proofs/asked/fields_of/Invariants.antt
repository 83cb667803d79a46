use Rattle.std.proofs.Common.{◌≡◌, ◌++◌}
use Rattle.std.specs.Option.{option_map}
use Rattle.muni_figures.specs.Rows.{parts, parts_left}
use Rattle.muni_figures.specs.Texts.{texts_of}
use Rattle.muni_figures.proofs.RowLemmas.{left_size}
use Rattle.muni_figures.proofs.asked.fields_of.Given as goal

-- the fields that were cut off, and those that are left
abbrev pub invariant-loop-left : goal.invariant-loop-left
invariant-loop-left l = texts_of l.fields.items ++ parts_left 44 (option_map (λ text. text.now) l.left) ≡ parts 44 l.line

abbrev pub decreases-loop-left : goal.decreases-loop-left
decreases-loop-left l = left_size (option_map (λ text. text.now) l.left)
