use Rattle.std.proofs.Common.{◌≡◌, ◌+◌, ◌++◌, take, map}
use Rattle.arrayvec.specs.ArrayVec.{array_vec_len}
use Rattle.muni_keep.specs.Tables.{line}
use Rattle.muni_keep.proofs.page.first_lines.Given as goal

-- what is left are the lines of the rest
abbrev pub invariant-loop-reference : goal.invariant-loop-reference
invariant-loop-reference l = record {
  so_far : l.lines.items ++ map line (take l.reference-iterator.n l.reference-iterator.iter) ≡ map line (take 50 l.fn.trades);
  room : array_vec_len l.lines + l.reference-iterator.n ≡ 50;
}
