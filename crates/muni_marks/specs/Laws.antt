-- A law of marks, for the answers that any ends lead to.
use Rattle.std.specs.Prelude.{◌≡◌, ℕ, ℤ, List}
use Rattle.muni_rule.specs.Payments.{PaymentSeries}
use Rattle.muni_rule.specs.WorthEnds.{WorthEnds}
use Rattle.muni_keep.specs.Tables.{Tables}
use Rattle.muni_answer.specs.Answers.{IsRightAnswer}
use Rattle.muni_marks.specs.Portfolio.{IsPortfolioText}

-- a portfolio over given tables has one text
abbrev pub PortfoliosHaveOneText : Type 0
PortfoliosHaveOneText =
    (ends : PaymentSeries → ℤ → WorthEnds) (tables : Tables) (text lines others : List ℕ)
    → IsPortfolioText (IsRightAnswer ends) tables text lines
    → IsPortfolioText (IsRightAnswer ends) tables text others
    → lines ≡ others
