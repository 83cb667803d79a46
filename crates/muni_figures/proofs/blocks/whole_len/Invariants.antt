use Rattle.std.proofs.Common.{◌≤◌, length, drop}
use Rattle.muni_figures.specs.Blocks.{NoneEnds}
use Rattle.muni_figures.proofs.blocks.whole_len.Given as goal

-- no line ends after these bytes
abbrev pub invariant-loop-end : goal.invariant-loop-end
invariant-loop-end l = record {
  within : l.end ≤ length l.bytes;
  begun : NoneEnds (drop l.end l.bytes);
}

abbrev pub decreases-loop-end : goal.decreases-loop-end
decreases-loop-end l = l.end
