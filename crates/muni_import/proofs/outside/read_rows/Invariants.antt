use Rattle.std.proofs.Common.{◌≡◌, length}
use Rattle.muni_import.specs.Rows.{rows_of}
use Rattle.muni_import.proofs.RowLemmas.{HasRead}
use Rattle.muni_import.proofs.outside.read_rows.Given as goal

abbrev pub invariant-loop-count : goal.invariant-loop-count
invariant-loop-count l = record {
  read : HasRead l.rows.items l.reader (rows_of l.fn.text);
  counted : length l.rows.items ≡ l.count;
}
