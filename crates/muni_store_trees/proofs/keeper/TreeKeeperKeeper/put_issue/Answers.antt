use Rattle.muni_store_trees.specs.Puts.{AddsIssue}
use Rattle.muni_store_trees.proofs.CallLemmas.{puts_or_undoes}
use Rattle.muni_store_trees.proofs.keeper.TreeKeeperKeeper.put_issue.Goals as goal

pub returns-clause-adds : goal.returns-clause-adds
returns-clause-adds g c =
    let settled = c.settled.ensures in
    let both = puts_or_undoes g.S.Store.view g.S.Store.recovers (AddsIssue c.args.self.now.places c.args.number c.args.issue.now) c.put_issue-put.result c.settled.result
    c.args.self.now.store c.put_issue-put.new.store c.settled.new.self.store settled.same settled.kept settled.undone c.put_issue-put.ensures.puts in
    record { puts = both.puts; undone = both.undone; places = settled.frame.places; counts = settled.frame.counts }
