-- The days of a note that settles, as the tests of its terms bound them.
use Rattle.std.proofs.Common.{◌≡◌, ◌≤◌, true, None, pos, ◌≤ℤ◌, arith}
use Rattle.muni_rule.specs.Civil.{Civil, order_of}
use Rattle.muni_rule.specs.DayCount.{days_by}
use Rattle.muni_rule.specs.declared.basis.Basis.{Basis}
use Rattle.muni_rule.proofs.DayCountLemmas.{days_by-not_negative, days_by-rise, days_by-fall}
use Rattle.muni_days.specs.Day.{civil}
use Rattle.muni_days.specs.declared.day.Day.{Day}
use Rattle.muni_days.proofs.CivilLemmas.{is_of_calendar}
use Rattle.muni_terms.specs.Check.{fault_of, ends_soon}
use Rattle.muni_terms.specs.Issue.{settles, anchor_by, anchor_of}
use Rattle.muni_terms.specs.declared.row.Kind.{Kind}
use Rattle.muni_terms.specs.declared.row.Kind.TheVariants.{Periodic, Zero, AtRedemption, Discount}
use Rattle.muni_terms.specs.declared.row.IssueRow.{IssueRow}
use Rattle.muni_terms.proofs.IssueLemmas.{is_issue, is_settled, int_le-true}

-- from the dated date to maturity a note runs 720 days at most
note-short : (kind : Kind) (basis : Basis) (dated maturity : Civil) → anchor_by kind maturity ≡ None → ends_soon kind basis dated maturity ≡ true → days_by basis dated maturity ≤ℤ pos 720
note-short (Periodic first) basis dated maturity note soon = absurd (cc)
note-short Zero basis dated maturity note soon = absurd (cc)
note-short AtRedemption basis dated maturity note soon = int_le-true (days_by basis dated maturity) (pos 720) soon
note-short Discount basis dated maturity note soon = int_le-true (days_by basis dated maturity) (pos 720) soon

-- the days of a note round a settlement
pub record HasNoteDays (basis : Basis) (dated settlement maturity : Civil) : Type 0 where
  pub from : order_of dated ≤ order_of settlement
  pub up_to : order_of settlement ≤ order_of maturity
  pub order : days_by basis dated settlement ≤ℤ days_by basis dated maturity
  pub left_from : pos 0 ≤ℤ days_by basis settlement maturity
  pub left_to : days_by basis settlement maturity ≤ℤ days_by basis dated maturity
  pub whole : days_by basis dated maturity ≤ℤ pos 720

pub has_note_days : (row : IssueRow) (settlement : Day) → fault_of row ≡ None → anchor_of row ≡ None → settles row settlement ≡ true → HasNoteDays row.basis (civil row.dated) (civil settlement) (civil row.maturity)
has_note_days row settlement passed note settles_then =
    let issue = is_issue row passed in
    let settled = is_settled row settlement issue settles_then in
    let below = settled.below in
    let up_to : order_of (civil settlement) ≤ order_of (civil row.maturity) = omega arith in
    record {
      from = settled.from;
      up_to = up_to;
      order = days_by-rise row.basis (civil row.dated) (civil settlement) (civil row.maturity) (is_of_calendar settlement) (is_of_calendar row.maturity) up_to;
      left_from = days_by-not_negative row.basis (civil settlement) (civil row.maturity) (is_of_calendar settlement) (is_of_calendar row.maturity) up_to;
      left_to = days_by-fall row.basis (civil row.dated) (civil settlement) (civil row.maturity) (is_of_calendar row.dated) (is_of_calendar settlement) settled.from;
      whole = note-short row.kind row.basis (civil row.dated) (civil row.maturity) note issue.term;
    }
