use Rattle.std.proofs.Common.{arith}
use Rattle.muni_store_trees.proofs.ScanLemmas.{first_sought}
use Rattle.muni_store_trees.proofs.scan.first_from.Goals as goal

pub returns-clause-found : goal.returns-clause-found
returns-clause-found g c = λ clean.
    first_sought (g.S.Store.view c.seek.new.store) (g.S.Store.view c.next.new.self) c.args.key.now c.next.new.row
    ((g.S.Store.view c.args.store.now).trees c.args.index) c.in_ok-next.field-0 (c.in_ok-seek.ensures.sought (let falls = c.next.ensures.quiet.clean in omega arith)) (c.in_ok-next.ensures.ok clean)
