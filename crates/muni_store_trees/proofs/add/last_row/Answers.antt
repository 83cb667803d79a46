use Rattle.std.proofs.Common.{◌≡◌, Some, refl, sym, ap, ◌∙◌, arith}
use Rattle.sqlite_value.specs.Keys.{plain}
use Rattle.sqlite_trees.specs.Tree.{order_of, sought}
use Rattle.sqlite_trees.specs.View.{IsClean}
use Rattle.sqlite_trees.specs.declared.store.Direction.TheVariants.{Backward}
use Rattle.sqlite_trees.specs.declared.store.Shape.TheVariants.{Table}
use Rattle.muni_store_trees.proofs.AddLemmas.{last_sought}
use Rattle.muni_store_trees.proofs.add.last_row.Goals as goal

pub returns-clause-found : goal.returns-clause-found
returns-clause-found g c = λ clean.
    let old = g.S.Store.view c.args.store.now in
    let rows = old.trees c.args.table in
    let shape : old.shape c.args.table ≡ Table = sym c.shape.ensures ∙ c.if-not-is_table.ensures refl in
    let before : IsClean (g.S.Store.view c.seek.new.self) = (let falls = c.next.ensures.quiet.clean in omega arith) in
    let cursor : (g.S.Store.view c.seek.new.self).cursors 0 ≡ Some (sought plain Backward c.args.none.now rows) =
    ap (λ v. v.cursors 0) (c.in_ok-seek.ensures.ok before) ∙ ap (λ s. Some (sought (order_of s) Backward c.args.none.now rows)) shape in
    last_sought (g.S.Store.view c.seek.new.self) (g.S.Store.view c.next.new.self) c.next.new.row rows c.in_ok-next.field-0
    (cursor ∙ ap (λ key. Some (sought plain Backward key rows)) c.requires) (c.in_ok-next.ensures.ok clean)
