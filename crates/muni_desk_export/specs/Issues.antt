-- The rows of issues, as they are written.
use Rattle.std.specs.Prelude.{ℕ, ◌+◌, Bool, true, if◌then◌else◌, List, [], ◌∷◌, ◌++◌, Option, Some, None}
use Rattle.std.specs.List.{flat_map}
use Rattle.std.specs.BTreeMap.{BTreeMap}
use Rattle.muni_terms.specs.declared.row.IssueRow.{IssueRow}
use Rattle.muni_keep.specs.History.{History, versions}
use Rattle.muni_keep.specs.Tables.{Tables, issue_history}
use Rattle.muni_keep.specs.Trades.{past}
use Rattle.muni_export.specs.Rows.{issue_row}
use Rattle.muni_desk_export.specs.Named.{has}
use Rattle.muni_desk_export.specs.Trades.{kept_versions}

-- an issue is wanted if its CUSIP is named, or if all are
abbrev pub is_wanted : Option (BTreeMap (List ℕ) (Unit {0})) → List ℕ → Bool
is_wanted None cusip = true
is_wanted (Some named) cusip = has named cusip

-- the rows of terms of an issue, whose numbers are counted on
abbrev pub terms_rows : ℕ → List IssueRow → List ℕ
terms_rows number [] = []
terms_rows number (issue ∷ more) = issue_row number issue ++ terms_rows (number + 1) more

-- those of all its terms, from number 1 on
abbrev pub issue_rows : List IssueRow → List ℕ
issue_rows terms = terms_rows 1 terms

-- the rows of an issue, if it is wanted
abbrev pub issue_text : (List ℕ → Bool) → List ℕ × History IssueRow → List ℕ
issue_text is_wanted entry = if is_wanted entry.0 then issue_rows (versions entry.1) else []

-- all terms of the issue of a CUSIP, if it is kept, and their rows
abbrev pub terms_at : Tables → List ℕ → List IssueRow
terms_at tables cusip = kept_versions (issue_history tables cusip)

abbrev pub rows_at : Tables → List ℕ → List ℕ
rows_at tables cusip = issue_rows (terms_at tables cusip)

-- the same if it is wanted
abbrev pub text_at : Tables → (List ℕ → Bool) → List ℕ → List ℕ
text_at tables is_wanted cusip = if is_wanted cusip then rows_at tables cusip else []

-- the rows of the issues that are wanted after a CUSIP, if one is given, in the order of their CUSIPs
abbrev pub issues_after : Tables → (List ℕ → Bool) → Option (List ℕ) → List ℕ
issues_after tables is_wanted after = flat_map (issue_text is_wanted) (past after tables.issues)

abbrev pub issues_left : Tables → Option (BTreeMap (List ℕ) (Unit {0})) → Option (List ℕ) → List ℕ
issues_left tables named after = issues_after tables (is_wanted named) after

-- the rows of all issues, in the order of their CUSIPs
abbrev pub all_issues : Tables → List ℕ
all_issues tables = issues_after tables (λ cusip. true) None
