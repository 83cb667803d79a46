use Rattle.std.proofs.Common.{arith}
use Rattle.muni_simple.proofs.ShownLemmas.{answer-above, answer-below}
use Rattle.muni_simple.proofs.yields.yield_at.Goals as goal

pub returns-then-worth-due-clause-exact : goal.returns-then-worth-due-clause-exact
returns-then-worth-due-clause-exact c =
    rw c.shown_from_above.ensures (answer-above c.args.due c.args.accrued c.args.left c.args.amount c.args.least c.truncated.result c.args.basis (omega arith) (omega arith) c.if-worth-due.true (rw c.no_growth.ensures.value at c.truncated.ensures.reached) (rw c.no_growth.ensures.value at c.truncated.ensures.next))

pub returns-else-worth-due-clause-exact : goal.returns-else-worth-due-clause-exact
returns-else-worth-due-clause-exact c =
    let truncated = c.truncated-loss in
    rw c.shown_from_below.ensures (answer-below c.args.due c.args.accrued c.args.left c.args.amount c.args.least truncated.result c.args.basis (omega arith) (omega arith) c.if-worth-due.false (rw c.no_growth-else-worth-due.ensures.value at truncated.ensures.reached) (rw c.no_growth-else-worth-due.ensures.value at truncated.ensures.next))
