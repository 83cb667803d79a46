use Rattle.muni_terms.proofs.IssueLemmas.{is_issue, is_settled}
use Rattle.muni_sched.proofs.shape.pricing_at.Goals as goal

pub flows-requires-clause-later : goal.flows-requires-clause-later
flows-requires-clause-later c =
    let row = c.args.issue.now in
    let settled = is_settled row c.args.settlement (is_issue row c.row.ensures.passed) c.requires in
    rw c.row-in-Periodic.ensures.value settled.below
