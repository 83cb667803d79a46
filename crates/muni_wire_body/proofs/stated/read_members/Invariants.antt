use Rattle.std.proofs.Common.{◌≡◌, ◌≤◌, [], drop, length}
use Rattle.csv.specs.Records.{fields_of, partial_of}
use Rattle.serde_json.specs.View.{view}
use Rattle.muni_msg.specs.Columns.{all_columns}
use Rattle.muni_wire_body.specs.Stated.{texts_in}
use Rattle.muni_wire_body.proofs.StatedLemmas.{with_more}
use Rattle.muni_wire_body.proofs.stated.read_members.Given as goal

-- the columns and texts so far, and those that are left, are all of them
abbrev pub invariant-loop-column : goal.invariant-loop-column
invariant-loop-column l = record {
  items : l.column-items ≡ all_columns;
  left : with_more l.columns.items (fields_of l.fields) (texts_in (drop l.column-index all_columns) (view l.value)) ≡ with_more [] [] (texts_in all_columns (view l.value));
  partial : partial_of l.fields ≡ [];
  room : length l.columns.items ≤ l.column-index;
}
