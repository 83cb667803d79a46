use Rattle.muni_store_trees.proofs.ScanLemmas.{sought_from}
use Rattle.muni_store_trees.proofs.scan.begin_from.Goals as goal

pub returns-clause-begun : goal.returns-clause-begun
returns-clause-begun g c = λ clean.
    sought_from (g.S.Store.view c.seek.new.store) c.args.key.now c.args.start.now c.requires.0 ((g.S.Store.view c.args.store.now).trees c.args.index) c.requires.1
    (c.in_ok-seek.ensures.sought clean)
