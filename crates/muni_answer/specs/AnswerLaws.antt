-- Laws of what is answered.
use Rattle.std.specs.Prelude.{◌≡◌, ℕ, ⊤, List, Result, Ok, ℤ}
use Rattle.std.specs.List.{AllZip}
use Rattle.muni_rule.specs.Payments.{PaymentSeries}
use Rattle.muni_rule.specs.WorthEnds.{WorthEnds}
use Rattle.muni_terms.specs.declared.row.IssueRow.{IssueRow}
use Rattle.muni_sched.specs.AnswerLaws.{HasOne}
use Rattle.muni_sched.specs.GivenFigure.{GivenFigure, at_yield, at_price, MayBeAsked, IsExact}
use Rattle.muni_sched.specs.declared.candidate.Candidate.{Candidate}
use Rattle.muni_msg.specs.declared.asked.Asked.{Asked}
use Rattle.muni_msg.specs.declared.asked.Given.{Given}
use Rattle.muni_msg.specs.declared.asked.Given.TheVariants.{AtYield, AtPrice, AtRate}
use Rattle.muni_msg.specs.declared.asked.Side.{Side}
use Rattle.muni_msg.specs.declared.figures.Figures.{Figures}
use Rattle.muni_msg.specs.declared.refusal.Refusal.{Refusal}
use Rattle.muni_answer.specs.Answers.{IsRightAnswer}
use Rattle.muni_answer.specs.RightFigures.{AreRightFigures}
use Rattle.muni_answer.specs.Trade.{net_price}

-- the right answer to a request is unique, and so it is figures or a refusal but not both
abbrev pub AnswersAreUnique : Type 0
AnswersAreUnique =
    (ends : PaymentSeries → ℤ → WorthEnds) (row : IssueRow) (asked : Asked)
    (answer other : Result Figures Refusal) → IsRightAnswer ends row asked answer
    → IsRightAnswer ends row asked other → answer ≡ other

-- figures that are answered are right by the exact formulas, whatever the ends
abbrev pub AnsweredFiguresAreRight : Type 0
AnsweredFiguresAreRight =
    (ends : PaymentSeries → ℤ → WorthEnds) (row : IssueRow) (asked : Asked) (figures : Figures)
    → IsRightAnswer ends row asked (Ok figures) → AreRightFigures row asked figures

-- figures that are right for what is asked of an issue are the same
abbrev pub RightFiguresAreOne : Type 0
RightFiguresAreOne =
    (row : IssueRow) (asked : Asked) (figures other : Figures)
    → AreRightFigures row asked figures → AreRightFigures row asked other → figures ≡ other

-- Two enclosers that both answer figures answer the same, whatever the ends of each.
abbrev pub AnsweredFiguresAreOne : Type 0
AnsweredFiguresAreOne =
    (ends others : PaymentSeries → ℤ → WorthEnds) (row : IssueRow) (asked : Asked) (figures other : Figures)
    → IsRightAnswer ends row asked (Ok figures) → IsRightAnswer others row asked (Ok other)
    → figures ≡ other

-- what is given may be asked of the candidates, and they have one list of exact outcomes
pub record HaveOutcomes (given : GivenFigure) (list : List Candidate) : Type 0 where
  pub asked : MayBeAsked given list
  pub exact : HasOne (AllZip (IsExact given) list)

-- so it is at a yield, and at a price at the net price; at a rate there is nothing to compare
abbrev pub HaveOutcomesAt : Given → Side → ℕ → List Candidate → Type 0
HaveOutcomesAt (AtYield y) side fee list = HaveOutcomes (at_yield y) list
HaveOutcomesAt (AtPrice price) side fee list =
    HaveOutcomes (at_price (net_price side price fee)) list
HaveOutcomesAt (AtRate rate) side fee list = ⊤

-- the exact outcomes by which figures are right are there, and one
abbrev pub RightFiguresHaveOutcomes : Type 0
RightFiguresHaveOutcomes =
    (row : IssueRow) (asked : Asked) (figures : Figures) (right : AreRightFigures row asked figures)
    → HaveOutcomesAt asked.given asked.side asked.fee right.list
