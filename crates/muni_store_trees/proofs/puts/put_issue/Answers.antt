use Rattle.std.proofs.Common.{◌≡◌, map, ap, ◌∙◌, subst}
use Rattle.sqlite_value.specs.Value.{owned}
use Rattle.muni_terms.specs.declared.row.IssueRow.{IssueRow}
use Rattle.muni_store_rows.specs.Issue as issues
use Rattle.muni_store_trees.specs.Adds.{AddsRow, Puts}
use Rattle.muni_store_trees.specs.Keys.{issue_key, issue_values}
use Rattle.muni_store_trees.proofs.puts.put_issue.Goals as goal

pub returns : goal.returns
returns g c =
    let columns = issues.numbered_columns c.args.number c.args.issue.now in
    let written : map owned c.issue_values.result ≡ issue_values columns = c.issue_values.ensures ∙ ap issue_values c.numbered_columns-columns.ensures in
    record {
      puts = subst (λ key. Puts g.S.Store.view g.S.Store.recovers (AddsRow c.args.places.issues c.args.places.cusips key (issue_values columns)) c.add_row.result c.args.store.now c.add_row.new.store)
          (c.in_ok-key.ensures ∙ ap (λ (row : IssueRow). issue_key row.cusip c.args.number) c.row.ensures.value)
          (subst (λ values. Puts g.S.Store.view g.S.Store.recovers (AddsRow c.args.places.issues c.args.places.cusips c.in_ok-key.key values) c.add_row.result c.args.store.now c.add_row.new.store)
          written c.add_row.ensures.puts);
    }
