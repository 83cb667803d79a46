use Rattle.muni_store_trees.proofs.ScanLemmas.{sought_scans}
use Rattle.muni_store_trees.proofs.scan.begin.Goals as goal

pub returns-clause-begun : goal.returns-clause-begun
returns-clause-begun g c = λ clean.
    sought_scans (g.S.Store.view c.seek.new.store) c.args.direction c.args.key.now ((g.S.Store.view c.args.store.now).trees c.args.index) (c.in_ok-seek.ensures.sought clean)
