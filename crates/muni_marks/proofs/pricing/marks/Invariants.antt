use Rattle.std.proofs.Common.{◌≡◌, take}
use Rattle.std.specs.List.{flat_map}
use Rattle.muni_marks.proofs.pricing.marks.Given as goal

-- the marks of the blocks so far
abbrev pub invariant-loop-block : goal.invariant-loop-block
invariant-loop-block g l = l.said.items ≡ flat_map (λ block. block.items) (take l.block-index l.block-items)
