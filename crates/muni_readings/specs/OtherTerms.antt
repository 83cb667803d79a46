-- The readings that are the rule over other terms: to maturity alone, to the first call alone, and without the
-- commission.
use Rattle.std.specs.Prelude.{◌≡◌, ℕ, List, [], ◌∷◌, MatchOption, Option, Some, None, option_map, Result, ℤ}
use Rattle.std.specs.List.{slice_get}
use Rattle.std.specs.Result.{result_ok}
use Rattle.muni_rule.specs.Payments.{PaymentSeries}
use Rattle.muni_rule.specs.WorthEnds.{WorthEnds}
use Rattle.muni_rule.specs.declared.call_term.CallTerm.TheVariants as term
use Rattle.muni_rule.specs.declared.label.Label.{Label}
use Rattle.muni_rule.specs.declared.label.Label.TheVariants.{Maturity, ParOption, Call, Called}
use Rattle.muni_days.specs.declared.day.Day.{Day}
use Rattle.muni_terms.specs.Check.{fault_of}
use Rattle.muni_terms.specs.declared.row.IssueRow.{IssueRow}
use Rattle.muni_sched.specs.Candidates.{AreCandidates}
use Rattle.muni_sched.specs.declared.candidate.Candidate.{Candidate}
use Rattle.muni_msg.specs.declared.asked.Asked.{Asked}
use Rattle.muni_msg.specs.declared.figures.Figures.{Figures}
use Rattle.muni_msg.specs.declared.refusal.Refusal.{Refusal}
use Rattle.muni_answer.specs.Answers.{IsRightAnswer}

-- the ends that an encloser gives to payments and a yield
abbrev pub Ends : Type 0
Ends = PaymentSeries → ℤ → WorthEnds

-- the figures of the right answer, or none if it is a refusal
pub record IsAnswered (ends : Ends) (row : IssueRow) (asked : Asked) (theirs : Option Figures) : Type 0 where
  pub answer : Result Figures Refusal
  pub right : IsRightAnswer ends row asked answer
  pub figures : theirs ≡ result_ok answer

-- the same over other terms, and none if they are no terms of an issue
abbrev pub IsOver : Ends → IssueRow → Asked → Option Figures → Type 0
IsOver ends row asked theirs =
    MatchOption (fault_of row) (IsAnswered ends row asked theirs) (λ fault. theirs ≡ None)

-- the terms of an issue that cannot be called
abbrev pub uncalled : IssueRow → IssueRow
uncalled row = record row { calls = record { items = [] } }

-- MATURITY: the issue is priced to maturity alone
abbrev pub IsByMaturity : Ends → IssueRow → Asked → Option Figures → Type 0
IsByMaturity ends row asked theirs = IsOver ends (uncalled row) asked theirs

-- the terms of an issue that is redeemed for certain on a day at a price
abbrev pub called_for : Day → ℕ → IssueRow → IssueRow
called_for date price row = record row {
  calls = record { items = record { date = date; term = term.Called; price = price } ∷ [] };
}

-- the terms by which it is redeemed so, save at its maturity
abbrev pub redeemed_at : Label → Day → ℕ → IssueRow → IssueRow
redeemed_at Maturity date price row = row
redeemed_at ParOption date price row = called_for date price row
redeemed_at Call date price row = called_for date price row
redeemed_at Called date price row = called_for date price row

-- FIRST CALL: it is redeemed for certain at the first of its redemptions to come
pub record IsByFirstCall (ends : Ends) (row : IssueRow) (asked : Asked) (theirs : Option Figures) : Type 0 where
  pub list : List Candidate
  pub candidates : AreCandidates row asked.settle list
  pub first : Candidate
  pub there : slice_get list 0 ≡ Some first
  pub over : IsOver ends (redeemed_at first.label first.date first.price row) asked theirs

-- a trade without its commission
abbrev pub without_fee : Asked → Asked
without_fee asked = record asked { fee = 0 }

-- figures with the yield of others, and the redemption that has it
abbrev pub with_yield_of : Figures → Figures → Figures
with_yield_of figures other = record figures {
  yld = other.yld;
  redemption = other.redemption;
  at = other.at;
  label = other.label;
}

-- GROSS: the yield is that at the price without the commission
pub record IsByGross (ends : Ends) (row : IssueRow) (asked : Asked) (figures : Figures) (theirs : Option Figures) : Type 0 where
  pub gross : Option Figures
  pub answered : IsAnswered ends row (without_fee asked) gross
  pub is_with_yield : theirs ≡ option_map (with_yield_of figures) gross
