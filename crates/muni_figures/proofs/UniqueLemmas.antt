-- One answer is right for each row.
use Rattle.std.proofs.Common.{◌≡◌, ◌∙◌, ℕ, ℤ, List, [], ◌∷◌, ◌++◌, length, Option, Some, None, Bool, false, Result, Ok, Err, refl, sym, ap}
use Rattle.std.specs.List.{AllZip}
use Rattle.muni_rule.specs.Payments.{PaymentSeries}
use Rattle.muni_rule.specs.WorthEnds.{WorthEnds}
use Rattle.muni_terms.specs.declared.row.IssueRow.{IssueRow}
use Rattle.muni_msg.specs.Refusal.{number_of}
use Rattle.muni_msg.specs.declared.asked.Asked.{Asked}
use Rattle.muni_msg.specs.declared.figures.Figures.{Figures}
use Rattle.muni_msg.specs.declared.refusal.Refusal.{Refusal}
use Rattle.muni_answer.specs.Answers.{IsRightAnswer}
use Rattle.muni_answer.proofs.UniqueLemmas.{answers-unique}
use Rattle.muni_figures.specs.Done.{IsFiguresText}
use Rattle.muni_figures.specs.Line.{priced_count, priced_sum, said_lines, total_line}
use Rattle.muni_figures.specs.Rows.{Row}
use Rattle.muni_figures.specs.Said.{IsSaid, IsSaidBy, IsSaidTo}
use Rattle.muni_figures.specs.declared.said.FiguresSaid.{FiguresSaid}
use Rattle.muni_figures.specs.declared.said.FiguresSaid.TheVariants.{Priced, Refused}

-- without sensitivities one line is said to an answer
to-unique : (issue : IssueRow) (asked : Asked) (answer again : Result Figures Refusal) (said other : FiguresSaid) → answer ≡ again
    → IsSaidTo false issue asked answer said → IsSaidTo false issue asked again other → said ≡ other
to-unique issue asked (Ok figures) (Ok others) said other same is also =
    let figured : figures ≡ others = cc same in
    is.2 ∙ (λ i. Priced asked.cusip (figured i) (is.1 i)) ∙ (λ i. Priced asked.cusip others (sym also.1 i)) ∙ sym also.2
to-unique issue asked (Ok figures) (Err refusal) said other same is also = absurd (cc same)
to-unique issue asked (Err refusal) (Ok figures) said other same is also = absurd (cc same)
to-unique issue asked (Err refusal) (Err why) said other same is also =
    let refused : refusal ≡ why = cc same in
    is ∙ ap (λ r. Refused (number_of r)) refused ∙ sym also

said-by-unique : (ends : PaymentSeries → ℤ → WorthEnds) (kept : Option IssueRow) (asked : Asked) (said other : FiguresSaid)
    → IsSaidBy (IsRightAnswer ends) false kept asked said → IsSaidBy (IsRightAnswer ends) false kept asked other → said ≡ other
said-by-unique ends None asked said other is also = is ∙ sym also
said-by-unique ends (Some issue) asked said other is also =
    to-unique issue asked is.0 also.0 said other (answers-unique ends issue asked is.0 also.0 is.1 also.1) is.2 also.2

said-unique : (ends : PaymentSeries → ℤ → WorthEnds) (kept : List ℕ → Option IssueRow) (row : Row) (said other : FiguresSaid)
    → IsSaid (IsRightAnswer ends) false kept row said → IsSaid (IsRightAnswer ends) false kept row other → said ≡ other
unfolding IsSaid
said-unique ends kept (Err fault) said other is also = is ∙ sym also
said-unique ends kept (Ok asked) said other is also = said-by-unique ends (kept asked.cusip) asked said other is also

all-unique : (ends : PaymentSeries → ℤ → WorthEnds) (kept : List ℕ → Option IssueRow) (rows : List Row) (said others : List FiguresSaid)
    → AllZip (IsSaid (IsRightAnswer ends) false kept) rows said → AllZip (IsSaid (IsRightAnswer ends) false kept) rows others → said ≡ others
all-unique ends kept [] [] [] are also = refl
all-unique ends kept [] [] (other ∷ others) are also = absurd also
all-unique ends kept [] (one ∷ said) others are also = absurd are
all-unique ends kept (row ∷ rows) [] others are also = absurd are
all-unique ends kept (row ∷ rows) (one ∷ said) [] are also = absurd also
all-unique ends kept (row ∷ rows) (one ∷ said) (other ∷ others) are also =
    let first = said-unique ends kept row one other are.0 also.0 in
    let rest = all-unique ends kept rows said others are.1 also.1 in
    λ i. first i ∷ rest i

-- the whole text, by what is said of the rows
whole : List ℕ → ℕ → List FiguresSaid → List ℕ
whole before place said = before ++ said_lines place said ++ total_line (priced_count said) (priced_sum said) (length said)

is-whole : (Answers : Row → FiguresSaid → Type 0) (before : List ℕ) (place : ℕ) (rows : List Row) (text : List ℕ) (is : IsFiguresText Answers before place rows text) → text ≡ whole before place is.done.said
unfolding whole
is-whole Answers before place rows text is =
    let said = is.done.said in
    let counted = is.done.counted in
    is.written
    ∙ ap (λ l. before ++ l ++ total_line is.tally.priced is.tally.sum is.tally.rows) is.done.written
    ∙ (λ i. before ++ said_lines place said ++ total_line (counted.priced i) (counted.sum i) (counted.rows i))

pub texts-unique : (ends : PaymentSeries → ℤ → WorthEnds) (kept : List ℕ → Option IssueRow) (before : List ℕ) (place : ℕ) (rows : List Row) (text other : List ℕ)
    → IsFiguresText (IsSaid (IsRightAnswer ends) false kept) before place rows text → IsFiguresText (IsSaid (IsRightAnswer ends) false kept) before place rows other → text ≡ other
texts-unique ends kept before place rows text other is also =
    let Answers = IsSaid (IsRightAnswer ends) false kept in
    is-whole Answers before place rows text is
    ∙ ap (whole before place) (all-unique ends kept rows is.done.said also.done.said is.done.each also.done.each)
    ∙ sym (is-whole Answers before place rows other also)
