use Rattle.std.proofs.Common.{◌≡◌, arith}
use Rattle.std.proofs.lemmas.Int.{ints}
use Rattle.muni_rule.specs.DayCount.{days_by}
use Rattle.muni_days.specs.Day.{civil}
use Rattle.muni_sched.proofs.NoteLemmas.{has_note_days}
use Rattle.muni_sched.proofs.note.days_left.Goals as goal

pub returns-clause-range : goal.returns-clause-range
returns-clause-range c =
    let days = has_note_days c.args.issue.now c.args.settlement c.row.ensures.passed c.requires.note c.requires.settled in
    let left : c.days_by.result ≡ days_by c.args.issue.now.basis (civil c.args.settlement) (civil c.args.issue.now.maturity) = cc in
    rw left (omega (arith, ints), omega (arith, ints))
