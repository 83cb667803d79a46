-- The columns of sensitivities follow those that a row has without them.
use Rattle.std.proofs.Common.{◌≡◌, ◌∙◌, ℕ, ℤ, Bool, true, false, List, [], ◌∷◌, ◌++◌, Option, Some, None, Result, Ok, Err, refl, sym, ap, ap₂, subst, decimal}
use Rattle.std.proofs.lemmas.List.{append-nil, append_assoc}
use Rattle.muni_rule.specs.Payments.{PaymentSeries}
use Rattle.muni_rule.specs.WorthEnds.{WorthEnds}
use Rattle.muni_terms.specs.declared.row.IssueRow.{IssueRow}
use Rattle.muni_msg.specs.Refusal.{number_of}
use Rattle.muni_msg.specs.declared.asked.Asked.{Asked}
use Rattle.muni_msg.specs.declared.figures.Figures.{Figures}
use Rattle.muni_msg.specs.declared.refusal.Refusal.{Refusal}
use Rattle.muni_answer.specs.Answers.{IsRightAnswer}
use Rattle.muni_answer.proofs.UniqueLemmas.{answers-unique}
use Rattle.muni_figures.specs.Laws.{columns_of}
use Rattle.muni_figures.specs.Line.{figure_fields, risk_fields, said_fields, said_line}
use Rattle.muni_figures.specs.Rows.{Row}
use Rattle.muni_figures.specs.Said.{IsSaid, IsSaidBy, IsSaidTo}
use Rattle.muni_figures.specs.declared.said.RiskColumns.{RiskColumns}
use Rattle.muni_figures.specs.declared.said.RiskColumns.TheVariants.{LeftOut, Shown}
use Rattle.muni_figures.specs.declared.said.FiguresSaid.{FiguresSaid}
use Rattle.muni_figures.specs.declared.said.FiguresSaid.TheVariants.{Priced, Refused, Bad}

-- what is told with the columns is what is told without them, and then the columns
abbrev Follows : FiguresSaid → FiguresSaid → Type 0
Follows said plain = said_fields said ≡ said_fields plain ++ columns_of said

left-out : risk_fields LeftOut ≡ []
unfolding risk_fields
left-out = refl

fields-of-priced : (cusip : List ℕ) (figures : Figures) (columns : RiskColumns) → said_fields (Priced cusip figures columns) ≡ figure_fields cusip figures ++ risk_fields columns
unfolding said_fields
fields-of-priced cusip figures columns = refl

priced-follows : (cusip : List ℕ) (figures : Figures) (columns : RiskColumns) → Follows (Priced cusip figures columns) (Priced cusip figures LeftOut)
priced-follows cusip figures columns =
    let plain = fields-of-priced cusip figures LeftOut ∙ ap (λ l. figure_fields cusip figures ++ l) left-out ∙ append-nil (figure_fields cusip figures) in
    fields-of-priced cusip figures columns ∙ ap (λ l. l ++ risk_fields columns) (sym plain)

-- if nothing is added, both are the same
same-follows : (said plain : FiguresSaid) → plain ≡ said → columns_of said ≡ [] → Follows said plain
same-follows said plain same none = sym (append-nil (said_fields said)) ∙ ap₂ (λ one columns. said_fields one ++ columns) (sym same) (sym none)

answer-follows : (issue : IssueRow) (asked : Asked) (answer again : Result Figures Refusal) (said plain : FiguresSaid) → answer ≡ again
    → IsSaidTo true issue asked answer said → IsSaidTo false issue asked again plain → Follows said plain
answer-follows issue asked (Ok figures) (Ok others) said plain same is also =
    let figured : figures ≡ others = cc same in
    let plain_is : plain ≡ Priced asked.cusip figures LeftOut = also.2 ∙ (λ i. Priced asked.cusip (sym figured i) (also.1 i)) in
    subst (λ said. Follows said plain) (sym is.2) (subst (Follows (Priced asked.cusip figures is.0)) (sym plain_is) (priced-follows asked.cusip figures is.0))
answer-follows issue asked (Ok figures) (Err refusal) said plain same is also = absurd (cc same)
answer-follows issue asked (Err refusal) (Ok figures) said plain same is also = absurd (cc same)
answer-follows issue asked (Err refusal) (Err why) said plain same is also =
    let refused : refusal ≡ why = cc same in
    same-follows said plain (also ∙ ap (λ r. Refused (number_of r)) (sym refused) ∙ sym is) (ap columns_of is)

kept-follows : (ends : PaymentSeries → ℤ → WorthEnds) (kept : Option IssueRow) (asked : Asked) (said plain : FiguresSaid)
    → IsSaidBy (IsRightAnswer ends) true kept asked said → IsSaidBy (IsRightAnswer ends) false kept asked plain → Follows said plain
kept-follows ends None asked said plain is also = same-follows said plain (also ∙ sym is) (ap columns_of is)
kept-follows ends (Some issue) asked said plain is also =
    answer-follows issue asked is.0 also.0 said plain (answers-unique ends issue asked is.0 also.0 is.1 also.1) is.2 also.2

row-follows : (ends : PaymentSeries → ℤ → WorthEnds) (kept : List ℕ → Option IssueRow) (row : Row) (said plain : FiguresSaid)
    → IsSaid (IsRightAnswer ends) true kept row said → IsSaid (IsRightAnswer ends) false kept row plain → Follows said plain
unfolding IsSaid
row-follows ends kept (Err fault) said plain is also = same-follows said plain (also ∙ sym is) (ap columns_of is)
row-follows ends kept (Ok asked) said plain is also = kept-follows ends (kept asked.cusip) asked said plain is also

pub line-follows : (ends : PaymentSeries → ℤ → WorthEnds) (kept : List ℕ → Option IssueRow) (place : ℕ) (row : Row) (said plain : FiguresSaid)
    → IsSaid (IsRightAnswer ends) true kept row said → IsSaid (IsRightAnswer ends) false kept row plain
    → said_line place said ≡ decimal place ++ said_fields plain ++ columns_of said ++ 10 ∷ []
line-follows ends kept place row said plain is also =
    ap (λ fields. decimal place ++ fields ++ 10 ∷ []) (row-follows ends kept row said plain is also)
    ∙ ap (λ l. l ++ 10 ∷ []) (sym (append_assoc (decimal place) (said_fields plain) (columns_of said)))
