use Rattle.std.proofs.lemmas.Result.{err_from_is_err_and}
use Rattle.muni_store_trees.proofs.LookLemmas.{then_fails}
use Rattle.muni_store_trees.proofs.looks.find_last_issue.Goals as goal

pub returns-in_err-found-clause-looks : goal.returns-in_err-found-clause-looks
returns-in_err-found-clause-looks g c =
    let told = err_from_is_err_and c.from_residual-in_err-found.result c.from_residual-in_err-found.ensures.1 in
    let first = c.in_ok-first_match.ensures.looks in
    let second = c.in_err-found.ensures.looks in
    then_fails g.S.Store.view g.S.Store.recovers c.args.store.now c.first_match.new.store c.read_issue_at.new.store c.from_residual-in_err-found.result told.0 told.1
    (record { clean = first.clean; same = first.same; outcomes = first.outcomes }) second.clean second.held second.outcomes
