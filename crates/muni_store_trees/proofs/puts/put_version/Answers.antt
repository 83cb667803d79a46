use Rattle.std.proofs.Common.{◌≡◌, ℕ, map, ap, ◌∙◌, subst}
use Rattle.sqlite_value.specs.Value.{owned}
use Rattle.muni_msg.specs.declared.command.Key.{Key}
use Rattle.muni_msg.specs.declared.version.Version.{Version}
use Rattle.muni_store_rows.specs.Version as versions
use Rattle.muni_store_trees.specs.Adds.{AddsRow, Puts}
use Rattle.muni_store_trees.specs.Keys.{version_values}
use Rattle.muni_store_trees.proofs.puts.put_version.Goals as goal

pub returns : goal.returns
returns g c =
    let columns = versions.columns_of c.args.key.now c.args.number c.args.version.now in
    let written : map owned c.version_values.result ≡ version_values columns =
    c.version_values.ensures ∙ ap version_values (c.row-row.ensures ∙ ap (λ (w : Key × ℕ × Version). versions.columns_of w.0 w.1 w.2) c.new-written.ensures) in
    record {
      puts = subst (λ key. Puts g.S.Store.view g.S.Store.recovers (AddsRow c.args.places.versions c.args.places.keys key (version_values columns)) c.add_row.result c.args.store.now c.add_row.new.store)
          c.in_ok-wanted.ensures
          (subst (λ values. Puts g.S.Store.view g.S.Store.recovers (AddsRow c.args.places.versions c.args.places.keys c.in_ok-wanted.wanted values) c.add_row.result c.args.store.now c.add_row.new.store)
          written c.add_row.ensures.puts);
    }
