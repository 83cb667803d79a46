-- Redemption candidates: the date, the price and the label of each redemption, and how it is
-- priced.
use Rattle.std.specs.Prelude.{◌≡◌, ◌<◌, List, map, All, Some}
use Rattle.muni_rule.specs.Redemptions.{Redemption, redemptions_by, to_come_after, redemptions_after}
use Rattle.muni_days.specs.Day.{civil, place_of}
use Rattle.muni_days.specs.declared.day.Day.{Day}
use Rattle.muni_terms.specs.Issue.{entries_of, quasi_dates_of}
use Rattle.muni_terms.specs.declared.row.IssueRow.{IssueRow}
use Rattle.muni_sched.specs.declared.candidate.Candidate.{Candidate}
use Rattle.muni_sched.specs.Shape.{shape_at, IsPriceable}

-- a candidate as a redemption
abbrev pub redemption_of : Candidate → Redemption
redemption_of candidate =
    record { date = civil candidate.date; price = candidate.price; label = candidate.label }

-- the redemptions by all calls of an issue, each on the days on which it stands
abbrev pub calls_of : IssueRow → List Redemption
calls_of row = redemptions_by (quasi_dates_of row) (entries_of row) (civil row.maturity)

-- the redemptions of an issue after a settlement: those by its calls, and after them the maturity, unless the
-- issue has been called
abbrev pub redemptions_of : IssueRow → Day → List Redemption
redemptions_of row settlement =
    redemptions_after (civil settlement) (quasi_dates_of row) (entries_of row) (civil row.maturity)

-- its shape is that of its redemption
abbrev pub HasShape : IssueRow → Day → Candidate → Type 0
HasShape row settlement candidate =
    Some candidate.shape ≡ shape_at row settlement candidate.date candidate.price

-- its numbers are in the ranges that the calculators take
abbrev pub IsCandidate : Candidate → Type 0
IsCandidate candidate = IsPriceable candidate.shape

-- the candidates of those of some redemptions that are to come at a settlement
pub record AreCandidatesOf
    (row : IssueRow) (settlement : Day) (all : List Redemption) (list : List Candidate)
    : Type 0 where
  pub redemptions : map redemption_of list ≡ to_come_after (civil settlement) all
  pub shapes : All (HasShape row settlement) list
  pub ranges : All IsCandidate list

-- the redemption candidates of an issue at a settlement, in order of date
pub record AreCandidates (row : IssueRow) (settlement : Day) (list : List Candidate) : Type 0 where
  pub redemptions : map redemption_of list ≡ redemptions_of row settlement
  pub shapes : All (HasShape row settlement) list
  pub ranges : All IsCandidate list

-- one candidate is redeemed before another
abbrev pub IsRedeemedEarlier : Candidate → Candidate → Type 0
IsRedeemedEarlier candidate other = place_of candidate.date < place_of other.date
