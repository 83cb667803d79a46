use Rattle.std.proofs.Common.{sym, ap, ◌∙◌, subst}
use Rattle.std.specs.Ordering.{is_eq}
use Rattle.std.proofs.lemmas.Cmp.{is_eq_index}
use Rattle.sqlite_trees.specs.View.{Advances}
use Rattle.muni_store_trees.proofs.ScanLemmas.{scan_gives}
use Rattle.muni_store_trees.proofs.scan.next.Goals as goal

-- src/scan.rt:35:1
pub returns-clause-found : goal.returns-clause-found
returns-clause-found g c = λ clean left scans.
    let old = g.S.Store.view c.args.store.now in
    let new = g.S.Store.view c.next.new.self in
    scan_gives old new c.args.key.now c.next.new.row left c.eq.result (c.eq.ensures ∙ sym (is_eq_index c.cmp_prefix.result) ∙ ap is_eq c.cmp_prefix.ensures)
    (subst (Advances old new 0 c.next.new.row) c.if-not-branch.false (c.in_ok-next.ensures.ok clean)) scans
