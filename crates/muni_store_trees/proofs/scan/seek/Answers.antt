use Rattle.std.proofs.Common.{◌≡◌, Some, refl, sym, ap, ◌∙◌, subst}
use Rattle.sqlite_value.specs.Keys.{plain}
use Rattle.sqlite_trees.specs.Tree.{order_of, sought}
use Rattle.sqlite_trees.specs.View.{IsShaped}
use Rattle.sqlite_trees.specs.declared.store.Shape.TheVariants.{Index}
use Rattle.muni_store_trees.proofs.scan.seek.Goals as goal

pub returns-clause-sought : goal.returns-clause-sought
returns-clause-sought g c = λ clean.
    let old = g.S.Store.view c.args.store.now in
    let entries = old.trees c.args.index in
    let shape : old.shape c.args.index ≡ Index plain = sym c.shape.ensures ∙ c.if-not-is_plain_index.ensures refl in
    record {
      cursor = ap (λ v. v.cursors 0) (c.in_ok-seek.ensures.ok clean) ∙ ap (λ s. Some (sought (order_of s) c.args.direction c.args.key.now entries)) shape;
      ordered = subst (λ s. IsShaped s entries) shape (g.met.S.Store.ordered c.args.store.now (c.in_ok-seek.ensures.sound clean) c.args.index);
    }
