-- Laws of figures, for the answers that any ends lead to.
use Rattle.std.specs.Prelude.{◌≡◌, ℕ, ◌+◌, ℤ, Bool, true, false, List, [], ◌∷◌, ◌++◌, length, decimal}
use Rattle.muni_rule.specs.Payments.{PaymentSeries}
use Rattle.muni_rule.specs.WorthEnds.{WorthEnds}
use Rattle.muni_answer.specs.Answers.{IsRightAnswer}
use Rattle.muni_keep.specs.Tables.{Tables, issue_at}
use Rattle.muni_figures.specs.Done.{AreDone, IsFiguresText, tally_sum}
use Rattle.muni_figures.specs.Line.{risk_fields, said_fields, said_line}
use Rattle.muni_figures.specs.Rows.{Row, rows_in, rows_of}
use Rattle.muni_figures.specs.Said.{IsSaid}
use Rattle.muni_figures.specs.declared.said.FiguresSaid.{FiguresSaid}
use Rattle.muni_figures.specs.declared.said.FiguresSaid.TheVariants.{Priced, Refused, Bad}
use Rattle.muni_figures.specs.declared.tally.Tally.{Tally}

-- without sensitivities an input over given tables has one text
abbrev pub InputsHaveOneText : Type 0
InputsHaveOneText =
    (ends : PaymentSeries → ℤ → WorthEnds) (tables : Tables) (before : List ℕ) (place : ℕ) (input text other : List ℕ)
    → IsFiguresText (IsSaid (IsRightAnswer ends) false (issue_at tables)) before place (rows_of input) text
    → IsFiguresText (IsSaid (IsRightAnswer ends) false (issue_at tables)) before place (rows_of input) other
    → text ≡ other

-- bytes that are cut at a line feed have the lines of the first part, and then those of the second, whose places go
-- on after those of the first; and the tallies of both add up
abbrev pub LinesGoOn : Type 0
LinesGoOn =
    (ends : PaymentSeries → ℤ → WorthEnds) (has_risk : Bool) (tables : Tables) (place : ℕ) (front back lines more : List ℕ) (tally after : Tally)
    → AreDone (IsSaid (IsRightAnswer ends) has_risk (issue_at tables)) place (rows_in front) lines tally
    → AreDone (IsSaid (IsRightAnswer ends) has_risk (issue_at tables)) (place + length (rows_in front)) (rows_in back) more after
    → AreDone (IsSaid (IsRightAnswer ends) has_risk (issue_at tables)) place (rows_in (front ++ 10 ∷ back)) (lines ++ more) (tally_sum tally after)

-- the columns of the sensitivities
abbrev pub columns_of : FiguresSaid → List ℕ
columns_of (Priced cusip figures columns) = risk_fields columns
columns_of (Refused number) = []
columns_of (Bad fault) = []

-- sensitivities change nothing else: without their columns a line is that of the row without them
abbrev pub SensitivitiesOnlyFollow : Type 0
SensitivitiesOnlyFollow =
    (ends : PaymentSeries → ℤ → WorthEnds) (tables : Tables) (place : ℕ) (row : Row) (said plain : FiguresSaid)
    → IsSaid (IsRightAnswer ends) true (issue_at tables) row said
    → IsSaid (IsRightAnswer ends) false (issue_at tables) row plain
    → said_line place said ≡ decimal place ++ said_fields plain ++ columns_of said ++ 10 ∷ []
