use Rattle.std.proofs.Common.{◌≡◌, drop}
use Rattle.csv.specs.Records.{fields_of}
use Rattle.muni_check_rows.specs.Columns.{columns_in, with_columns}
use Rattle.muni_check_rows.proofs.columns.read_columns.Given as goal

-- what the names that are left add to the columns so far is what all names lead to
abbrev pub invariant-loop-place : goal.invariant-loop-place
invariant-loop-place l =
    with_columns l.columns.items (drop l.place (fields_of l.names)) ≡ columns_in (fields_of l.names)
