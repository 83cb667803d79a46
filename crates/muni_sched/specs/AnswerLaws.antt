-- Laws of the lowest figure: a candidate has one exact outcome, the rule gives one answer, and one
-- decided answer is right.
use Rattle.std.specs.Prelude.{◌≡◌, List, [], ◌∷◌, ℤ}
use Rattle.std.specs.List.{AllZip}
use Rattle.muni_rule.specs.Payments.{PaymentSeries}
use Rattle.muni_rule.specs.WorthEnds.{WorthEnds}
use Rattle.muni_sched.specs.declared.answer.LowAnswer.{LowAnswer}
use Rattle.muni_sched.specs.declared.candidate.Candidate.{Candidate}
use Rattle.muni_sched.specs.Answer.{IsDecided, IsLowestByRule, IsRightLowest}
use Rattle.muni_sched.specs.GivenFigure.{GivenFigure, MayBeAsked, IsExact}

-- a value is such, and no other
pub record HasOne {A : Type 0} (IsSuch : A → Type 0) : Type 0 where
  pub value : A
  pub such : IsSuch value
  pub only : (other : A) → IsSuch other → other ≡ value

-- a candidate has one exact outcome, and a list of them one list of outcomes
abbrev pub HasOneExactOutcome : Type 0
HasOneExactOutcome =
    (given : GivenFigure) (candidate : Candidate)
    → MayBeAsked given (candidate ∷ []) → HasOne (IsExact given candidate)

abbrev pub HaveOneExactOutcomes : Type 0
HaveOneExactOutcomes =
    (given : GivenFigure) (list : List Candidate)
    → MayBeAsked given list → HasOne (AllZip (IsExact given) list)

-- for given ends of the worths the rule allows one answer
abbrev pub AllowsOneAnswer : Type 0
AllowsOneAnswer =
    (ends : PaymentSeries → ℤ → WorthEnds) (given : GivenFigure) (list : List Candidate)
    (one other : LowAnswer) → MayBeAsked given list
    → IsLowestByRule ends given list one → IsLowestByRule ends given list other → one ≡ other

-- of the answers that are not undecided, at most one is right
abbrev pub OneAnswerIsRight : Type 0
OneAnswerIsRight =
    (given : GivenFigure) (list : List Candidate) (one other : LowAnswer)
    → MayBeAsked given list → IsDecided one → IsDecided other
    → IsRightLowest given list one → IsRightLowest given list other → one ≡ other
