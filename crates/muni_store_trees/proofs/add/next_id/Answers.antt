use Rattle.std.proofs.Common.{pos, Some, None, refl, subst, if◌then◌else◌}
use Rattle.muni_store_trees.specs.Adds.{IsLastRow}
use Rattle.muni_store_trees.proofs.AddLemmas.{id_is_new, map_if_ok}
use Rattle.muni_store_trees.proofs.add.next_id.Goals as goal

pub returns-then-not-branch-clause-new : goal.returns-then-not-branch-clause-new
returns-then-not-branch-clause-new g c = λ clean.
    let rows = (g.S.Store.view c.args.store.now).trees c.args.table in
    id_is_new rows None (pos 1) (c.in_ok-last_row.ensures.ordered clean)
    (subst (λ found. IsLastRow rows (if found then Some c.last_row-2.new.last else None)) c.if-not-branch.true (c.in_ok-last_row.ensures.found clean)) refl

pub returns-clause-new : goal.returns-clause-new
returns-clause-new g c =
    let rows = (g.S.Store.view c.args.store.now).trees c.args.table in
    map_if_ok c.id_after.result (λ id after clean.
    id_is_new rows (Some c.last_row-2.new.last) id (c.in_ok-last_row.ensures.ordered clean)
    (subst (λ found. IsLastRow rows (if found then Some c.last_row-2.new.last else None)) c.if-not-branch.false (c.in_ok-last_row.ensures.found clean)) after) c.id_after.ensures
