use Rattle.std.proofs.Common.{◌≡◌, pos, arith}
use Rattle.std.proofs.lemmas.Int.{ints}
use Rattle.muni_rule.specs.DayCount.{days_by}
use Rattle.muni_days.specs.Day.{civil}
use Rattle.muni_terms.proofs.IssueLemmas.{is_issue, is_settled}
use Rattle.muni_sched.proofs.NoteLemmas.{has_note_days}
use Rattle.muni_sched.proofs.note.note_days.Goals as goal

pub returns-clause-range : goal.returns-clause-range
returns-clause-range c =
    let row = c.args.issue.now in
    let days = has_note_days row c.args.settlement c.row-row.ensures.passed c.requires.note c.requires.settled in
    let whole : pos c.days_to.result ≡ days_by row.basis (civil row.dated) (civil row.maturity) = cc in
    let accrued : pos c.days_to-2.result ≡ days_by row.basis (civil row.dated) (civil c.args.settlement) = cc in
    (omega (arith, ints), omega (arith, ints))

pub days_to-requires : goal.days_to-requires
days_to-requires c =
    let row = c.args.issue.now in
    let settled = is_settled row c.args.settlement (is_issue row c.row-row.ensures.passed) c.requires.settled in
    let from = settled.from in
    let below = settled.below in
    rw c.row-row.ensures.value (omega arith)
