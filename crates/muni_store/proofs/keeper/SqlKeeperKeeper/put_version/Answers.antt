use Rattle.std.proofs.Common.{rules, ◌≡◌, Some, is_ok}
use Rattle.muni_store_trees.specs.Calls.{Adds}
use Rattle.muni_store_trees.specs.Counts.{after_put}
use Rattle.muni_store_trees.specs.Puts.{AddsVersion}
use Rattle.muni_store.specs.Open.{in_hand}
use Rattle.muni_store.proofs.OpenLemmas.{while_open}
use Rattle.muni_store.proofs.keeper.SqlKeeperKeeper.put_version.Goals as goal

pub returns-clause-adds : goal.returns-clause-adds
returns-clause-adds g c =
    let taken : in_hand c.args.self.now.state ≡ Some c.in_ok-keeper.keeper = search rules in
    rw c.put_back.ensures.same
    (while_open c.args.self.now.state c.put_back.new.self.state
    (λ was. Adds g.S.Store.view g.S.Store.recovers (λ places. AddsVersion places c.args.key.now c.args.number c.args.version.now)
    (after_put c.args.key.now.desk c.args.number (is_ok c.put_version-put.result) was.trades) c.put_version-put.result was)
    c.in_ok-keeper.keeper c.put_version-put.new.self
    taken c.put_back.ensures.kept c.put_version-put.ensures.adds)
