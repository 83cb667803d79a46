use Rattle.muni_store_trees.specs.Found as found
use Rattle.muni_store_trees.proofs.CallLemmas.{found_kept, keeps}
use Rattle.muni_store_trees.proofs.keeper.TreeKeeperKeeper.last_issue.Goals as goal

pub returns-clause-finds : goal.returns-clause-finds
returns-clause-finds g c =
    let view = g.S.Store.view in
    let settled = c.settled.ensures in
    record {
      found = found_kept view (found.IsLastIssue c.args.self.now.places (g.S.Store.view c.args.self.now.store).trees c.args.cusip.now) c.find_last_issue-found.result c.settled.result c.find_last_issue-found.new.store c.settled.new.self.store settled.same settled.kept c.find_last_issue-found.ensures.found;
      keeps = keeps view g.S.Store.recovers c.find_last_issue-found.result c.settled.result c.args.self.now.store c.find_last_issue-found.new.store c.settled.new.self.store settled.same settled.kept settled.undone c.find_last_issue-found.ensures.looks;
      places = settled.frame.places;
      counts = settled.frame.counts;
    }
