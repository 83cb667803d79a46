use Rattle.std.proofs.Common.{◌≡◌, [], ◌∷◌, ◌++◌, to_z, of_z, w64, map, ap, ◌∙◌, subst, arith}
use Rattle.std.proofs.lemmas.Int.{ints}
use Rattle.sqlite_value.specs.Value.{owned}
use Rattle.sqlite_value.specs.declared.value.Value.TheVariants.{Int}
use Rattle.sqlite_trees.specs.View.{IsClean}
use Rattle.muni_store_trees.specs.Adds.{IsNewId}
use Rattle.muni_store_trees.specs.Entries.{matching}
use Rattle.muni_store_trees.proofs.AddLemmas.{adds_row, no_match}
use Rattle.muni_store_trees.proofs.LookLemmas.{same_view}
use Rattle.muni_store_trees.proofs.add.add_row.Goals as goal

pub returns : goal.returns
returns g c =
    let old = g.S.Store.view c.args.store.now in
    let sought = g.S.Store.view c.first_match.new.store in
    let mid = g.S.Store.view c.next_id.new.store in
    let entries = old.trees c.args.keyed.index in
    let found = c.in_ok-first_match.ensures in
    let counted = c.in_ok-id.ensures in
    let id : to_z w64 (of_z w64 c.in_ok-id.id) ≡ c.in_ok-id.id = omega (arith, ints) in
    record {
      puts = adds_row g.S.Store.view g.S.Store.recovers c.write.result c.args.store.now c.next_id.new.store c.write.new.store c.args.keyed.table c.args.keyed.index
          c.args.key (map owned c.args.columns.now) c.in_ok-row.row c.push.new.self c.in_ok-id.id (c.in_ok-row.ensures ∙ ap (λ n. Int n ∷ map owned c.args.columns.now) id) (c.in_ok-push.ensures.ok ∙ ap (λ n. c.args.key ++ Int n ∷ []) id)
          (let first = found.looks.clean in let second = counted.looks.clean in omega arith)
          (λ clean.
          let before : IsClean sought = (let falls = counted.looks.clean in omega arith) in
          let same = found.looks.same before in (
            same_view old sought mid same (counted.looks.same clean),
            subst (λ v. IsNewId c.in_ok-id.id (v.trees c.args.keyed.table)) same (counted.new clean),
            no_match (matching c.args.key entries) c.first_match.new.entry c.in_ok-first_match.field-0 c.if-branch.false (found.found before),
          ))
          (λ db left. found.looks.outcomes db (counted.looks.outcomes db left))
          c.write.ensures.puts;
    }
