-- What is said of a row.
use Rattle.std.specs.Prelude.{◌≡◌, ⊤, ℕ, Bool, true, false, List, Option, Some, None, Result, Ok, Err, IfSome}
use Rattle.muni_terms.specs.declared.row.IssueRow.{IssueRow}
use Rattle.muni_msg.specs.Refusal.{number_of}
use Rattle.muni_msg.specs.declared.asked.Asked.{Asked}
use Rattle.muni_msg.specs.declared.figures.Figures.{Figures}
use Rattle.muni_msg.specs.declared.refusal.Refusal.{Refusal}
use Rattle.muni_msg.specs.declared.refusal.Refusal.TheVariants.{UnknownIssue}
use Rattle.muni_keep.specs.Tables.{Tables, issue_at}
use Rattle.muni_book.specs.Risk.{IsRiskOf}
use Rattle.muni_marks.specs.Marks.{Pricing}
use Rattle.muni_figures.specs.Rows.{Row}
use Rattle.muni_figures.specs.declared.said.RiskColumns.{RiskColumns}
use Rattle.muni_figures.specs.declared.said.RiskColumns.TheVariants.{LeftOut, Shown}
use Rattle.muni_figures.specs.declared.said.FiguresSaid.{FiguresSaid}
use Rattle.muni_figures.specs.declared.said.FiguresSaid.TheVariants.{Priced, Refused, Bad}

-- the sensitivities of a row with these figures, if they are asked for
abbrev pub AreColumns : (has_risk : Bool) → IssueRow → Asked → Figures → RiskColumns → Type 0
AreColumns false issue asked figures columns = columns ≡ LeftOut
AreColumns true issue asked figures LeftOut = ⊥
AreColumns true issue asked figures (Shown risk) = IsRiskOf issue asked figures risk

-- the figures of a row, or the number of its refusal
abbrev pub IsSaidTo : (has_risk : Bool) → IssueRow → Asked → Result Figures Refusal → FiguresSaid → Type 0
IsSaidTo has_risk issue asked (Ok figures) said =
    (columns : RiskColumns) × AreColumns has_risk issue asked figures columns
    × (said ≡ Priced asked.cusip figures columns)
IsSaidTo has_risk issue asked (Err refusal) said = said ≡ Refused (number_of refusal)

-- a row of an issue is answered by its pricing
abbrev pub IsPriced : Pricing → (has_risk : Bool) → IssueRow → Asked → FiguresSaid → Type 0
IsPriced Prices has_risk issue asked said =
    (answer : Result Figures Refusal) × Prices issue asked answer × IsSaidTo has_risk issue asked answer said

-- a row of an issue that is kept, or of none
abbrev pub IsSaidBy : Pricing → (has_risk : Bool) → Option IssueRow → Asked → FiguresSaid → Type 0
IsSaidBy Prices has_risk None asked said = said ≡ Refused (number_of UnknownIssue)
IsSaidBy Prices has_risk (Some issue) asked said = IsPriced Prices has_risk issue asked said

-- What is said of a row, by the row alone and the issue that is kept under its CUSIP.
unfoldable pub IsSaid : Pricing → (has_risk : Bool) → (List ℕ → Option IssueRow) → Row → FiguresSaid → Type 0
IsSaid Prices has_risk kept (Err fault) said = said ≡ Bad fault
IsSaid Prices has_risk kept (Ok asked) said = IsSaidBy Prices has_risk (kept asked.cusip) asked said

-- sensitivities are shown, though a discounted note has none
abbrev pub are_shown : RiskColumns → Bool
are_shown LeftOut = false
are_shown (Shown risk) = true

-- As far as it hangs on the row alone: one that is no row has its own fault, and any other a refusal, or figures,
-- with sensitivities if they are asked for.
abbrev pub IsSaidOf : (has_risk : Bool) → Row → FiguresSaid → Type 0
IsSaidOf has_risk (Err fault) said = said ≡ Bad fault
IsSaidOf has_risk (Ok asked) (Bad fault) = ⊥
IsSaidOf has_risk (Ok asked) (Refused number) = ⊤
IsSaidOf has_risk (Ok asked) (Priced cusip figures columns) = are_shown columns ≡ has_risk

-- by the tables, if they are exposed, and else by the row alone
pub record IsToldOf (Prices : Pricing) (has_risk : Bool) (told : Option Tables) (row : Row) (said : FiguresSaid) : Type 0 where
  pub shape : IsSaidOf has_risk row said
  pub right : IfSome told (λ tables. IsSaid Prices has_risk (issue_at tables) row said)
