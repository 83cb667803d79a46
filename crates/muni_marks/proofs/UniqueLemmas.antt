-- One answer is right for each row of a portfolio.
use Rattle.std.proofs.Common.{◌≡◌, ◌∙◌, ℕ, ℤ, List, [], ◌∷◌, Option, Some, None, Result, Ok, Err, refl, sym, ap}
use Rattle.std.specs.List.{AllZip}
use Rattle.muni_rule.specs.Payments.{PaymentSeries}
use Rattle.muni_rule.specs.WorthEnds.{WorthEnds}
use Rattle.muni_terms.specs.declared.row.IssueRow.{IssueRow}
use Rattle.muni_msg.specs.declared.asked.Asked.{Asked}
use Rattle.muni_answer.specs.Answers.{IsRightAnswer}
use Rattle.muni_answer.proofs.UniqueLemmas.{answers-unique}
use Rattle.muni_import.specs.declared.row.RowFault.{RowFault}
use Rattle.muni_marks.specs.Marks.{IsMark, IsMarkBy, said_of}
use Rattle.muni_marks.specs.declared.pricing.MarkSaid.{MarkSaid}

mark-by-unique : (ends : PaymentSeries → ℤ → WorthEnds) (kept : Option IssueRow) (asked : Asked) (said other : MarkSaid)
    → IsMarkBy (IsRightAnswer ends) kept asked said → IsMarkBy (IsRightAnswer ends) kept asked other → said ≡ other
mark-by-unique ends None asked said other is also = is ∙ sym also
mark-by-unique ends (Some issue) asked said other is also =
    is.2 ∙ ap (said_of asked) (answers-unique ends issue asked is.0 also.0 is.1 also.1) ∙ sym also.2

mark-unique : (ends : PaymentSeries → ℤ → WorthEnds) (kept : List ℕ → Option IssueRow) (row : Result Asked RowFault) (said other : MarkSaid)
    → IsMark (IsRightAnswer ends) kept row said → IsMark (IsRightAnswer ends) kept row other → said ≡ other
unfolding IsMark
mark-unique ends kept (Err fault) said other is also = is ∙ sym also
mark-unique ends kept (Ok asked) said other is also = mark-by-unique ends (kept asked.cusip) asked said other is also

pub marks-unique : (ends : PaymentSeries → ℤ → WorthEnds) (kept : List ℕ → Option IssueRow) (rows : List (Result Asked RowFault)) (said others : List MarkSaid)
    → AllZip (IsMark (IsRightAnswer ends) kept) rows said → AllZip (IsMark (IsRightAnswer ends) kept) rows others → said ≡ others
marks-unique ends kept [] [] [] are also = refl
marks-unique ends kept [] [] (other ∷ others) are also = absurd also
marks-unique ends kept [] (mark ∷ said) others are also = absurd are
marks-unique ends kept (row ∷ rows) [] others are also = absurd are
marks-unique ends kept (row ∷ rows) (mark ∷ said) [] are also = absurd also
marks-unique ends kept (row ∷ rows) (mark ∷ said) (other ∷ others) are also =
    let first = mark-unique ends kept row mark other are.0 also.0 in
    let rest = marks-unique ends kept rows said others are.1 also.1 in
    λ i. first i ∷ rest i
