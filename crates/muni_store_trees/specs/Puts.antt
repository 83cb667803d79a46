-- What a put of the terms of an issue or of a version adds.
use Rattle.std.specs.Prelude.{ℕ}
use Rattle.sqlite_trees.specs.Tree.{Trees}
use Rattle.muni_terms.specs.declared.row.IssueRow.{IssueRow}
use Rattle.muni_msg.specs.declared.command.Key.{Key}
use Rattle.muni_msg.specs.declared.version.Version.{Version}
use Rattle.muni_store_rows.specs.Issue as issues
use Rattle.muni_store_rows.specs.Version as versions
use Rattle.muni_store_trees.specs.declared.places.Places.{Places}
use Rattle.muni_store_trees.specs.Adds.{AddsRow}
use Rattle.muni_store_trees.specs.Keys.{issue_key, version_key, issue_values, version_values}

abbrev pub AddsIssue : Places → ℕ → IssueRow → Trees → Trees → Type 0
AddsIssue places number issue = AddsRow places.issues places.cusips (issue_key issue.cusip number) (issue_values (issues.numbered_columns number issue))

abbrev pub AddsVersion : Places → Key → ℕ → Version → Trees → Trees → Type 0
AddsVersion places key number version = AddsRow places.versions places.keys (version_key key number) (version_values (versions.columns_of key number version))
