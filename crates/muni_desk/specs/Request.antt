-- The answer to a request for the figures of a security.
-- `ends` are those that the encloser gives to payments and a yield.
use Rattle.std.specs.Prelude.{◌≡◌, MatchResult, Result, Err, ℤ}
use Rattle.muni_rule.specs.Payments.{PaymentSeries}
use Rattle.muni_rule.specs.WorthEnds.{WorthEnds}
use Rattle.muni_terms.specs.Check.{checked}
use Rattle.muni_terms.specs.declared.row.IssueRow.{IssueRow}
use Rattle.muni_msg.specs.declared.asked.Asked.{Asked}
use Rattle.muni_msg.specs.declared.figures.Figures.{Figures}
use Rattle.muni_msg.specs.declared.refusal.Refusal.{Refusal}
use Rattle.muni_msg.specs.declared.refusal.Refusal.TheVariants.{BadTerms}
use Rattle.muni_answer.specs.Answers.{IsRightAnswer}

-- the answer is right: it is the first fault of the terms, or it is right for the issue
abbrev pub IsAnswerOf : (ends : PaymentSeries → ℤ → WorthEnds) → IssueRow → Asked
    → Result Figures Refusal → Type 0
IsAnswerOf ends row asked answer =
    MatchResult (checked row) (λ issue. IsRightAnswer ends issue asked answer)
    (λ fault. answer ≡ Err (BadTerms fault))
