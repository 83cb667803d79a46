-- The redemption candidates for what is asked of an issue, if nothing is refused before they are priced.
use Rattle.std.specs.Prelude.{◌≡◌, ⊤, false, List, None, Result, Ok, Err, ℤ}
use Rattle.muni_rule.specs.Payments.{PaymentSeries}
use Rattle.muni_rule.specs.WorthEnds.{WorthEnds}
use Rattle.muni_terms.specs.declared.row.IssueRow.{IssueRow}
use Rattle.muni_sched.specs.Candidates.{AreCandidates}
use Rattle.muni_sched.specs.declared.candidate.Candidate.{Candidate}
use Rattle.muni_msg.specs.declared.asked.Asked.{Asked}
use Rattle.muni_msg.specs.declared.refusal.Refusal.{Refusal}
use Rattle.muni_msg.specs.declared.refusal.Refusal.TheVariants as refusal
use Rattle.muni_answer.specs.Answers.{IsRightAnswer}
use Rattle.muni_answer.specs.declared.answers.Early.{Early}
use Rattle.muni_answer.specs.declared.answers.Early.TheVariants as early
use Rattle.muni_answer.specs.GivenFor.{IsAskable}
use Rattle.muni_answer.specs.Trade.{is_wrong_basis, side_left}

-- the basis, the settlement and what is given are in order, and these are the candidates
pub record AreFilledFor (row : IssueRow) (asked : Asked) (list : List Candidate) : Type 0 where
  pub on_basis : is_wrong_basis row.kind asked.given asked.fee ≡ false
  pub candidates : AreCandidates row asked.settle list
  pub in_range : side_left asked.given asked.side asked.fee list ≡ None
  pub askable : IsAskable row asked list

-- an early refusal as it is answered
abbrev pub refusal_of : Early → Refusal
refusal_of early.WrongBasis = refusal.WrongBasis
refusal_of early.SettleOutside = refusal.SettleOutside
refusal_of (early.OutOfRange side) = refusal.GivenOutOfRange side

-- so it is, or what is asked is refused, whatever computes the figures
abbrev pub IsFilledFor : IssueRow → Asked → List Candidate → Result ⊤ Early → Type 0
IsFilledFor row asked list (Ok done) = AreFilledFor row asked list
IsFilledFor row asked list (Err why) =
    (ends : PaymentSeries → ℤ → WorthEnds) → IsRightAnswer ends row asked (Err (refusal_of why))
