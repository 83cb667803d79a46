use Rattle.std.proofs.lemmas.Result.{err_from_is_err_and}
use Rattle.muni_store_trees.proofs.LookLemmas.{then_fails}
use Rattle.muni_store_trees.proofs.looks.find_issue_past.Goals as goal

pub returns-in_err-issue-clause-looks : goal.returns-in_err-issue-clause-looks
returns-in_err-issue-clause-looks g c =
    let told = err_from_is_err_and c.from_residual-in_err-issue.result c.from_residual-in_err-issue.ensures.1 in
    let first = c.in_ok-first_from.ensures.looks in
    let second = c.in_err-issue.ensures.looks in
    then_fails g.S.Store.view g.S.Store.recovers c.args.store.now c.first_from.new.store c.find_issue.new.store c.from_residual-in_err-issue.result told.0 told.1
    (record { clean = first.clean; same = first.same; outcomes = first.outcomes }) second.clean second.held second.outcomes
