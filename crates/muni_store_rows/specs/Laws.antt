-- Laws of the columns.
use Rattle.std.specs.Prelude.{◌≡◌, ℕ, Some}
use Rattle.muni_terms.specs.declared.row.IssueRow.{IssueRow}
use Rattle.muni_msg.specs.declared.command.Key.{Key}
use Rattle.muni_msg.specs.declared.version.Version.{Version}
use Rattle.muni_store_rows.specs.Issue as issues
use Rattle.muni_store_rows.specs.Version as versions

-- columns that are read as numbered terms of an issue are those in which they are written
abbrev pub ReadsIssuesAsWritten : Type 0
ReadsIssuesAsWritten =
    (columns : issues.NumberedColumns) (number : ℕ) (issue : IssueRow)
    → issues.numbered_of columns ≡ Some (number, issue) → columns ≡ issues.numbered_columns number issue

-- columns that are read as a version are those in which it is written
abbrev pub ReadsVersionsAsWritten : Type 0
ReadsVersionsAsWritten =
    (columns : versions.Columns) (key : Key) (number : ℕ) (version : Version)
    → versions.trade_of columns ≡ Some (key, number, version) → columns ≡ versions.columns_of key number version
