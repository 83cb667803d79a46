-- What is said of a row has a name, and hangs on the row and on what is known of its issue.
use Rattle.std.proofs.Common.{◌≡◌, ℕ, Bool, true, false, List, [], ◌∷◌, Option, Some, None, Result, Ok, Err, refl, sym, ap, subst, arith}
use Rattle.std.specs.Prelude.{IfSome}
use Rattle.std.specs.List.{AllByRecursion, AllZip}
use Rattle.muni_terms.specs.declared.row.IssueRow.{IssueRow}
use Rattle.muni_msg.specs.declared.asked.Asked.{Asked}
use Rattle.muni_msg.specs.declared.figures.Figures.{Figures}
use Rattle.muni_msg.specs.declared.refusal.Refusal.{Refusal}
use Rattle.muni_keep.specs.Tables.{Tables, issue_at}
use Rattle.muni_marks.specs.Marks.{Pricing}
use Rattle.muni_marks.specs.Portfolio.{IsFetched}
use Rattle.muni_marks.proofs.PortfolioLemmas.{numbered}
use Rattle.muni_figures.specs.Line.{HasName}
use Rattle.muni_figures.specs.Rows.{Row}
use Rattle.muni_figures.specs.Said.{AreColumns, IsSaid, IsSaidBy, IsSaidOf, IsSaidTo, IsToldOf, are_shown}
use Rattle.muni_figures.specs.declared.said.RiskColumns.{RiskColumns}
use Rattle.muni_figures.specs.declared.said.RiskColumns.TheVariants.{LeftOut, Shown}
use Rattle.muni_figures.specs.declared.said.FiguresSaid.{FiguresSaid}

answer-named : (has_risk : Bool) (issue : IssueRow) (asked : Asked) (answer : Result Figures Refusal) (said : FiguresSaid) → IsSaidTo has_risk issue asked answer said → HasName said
answer-named has_risk issue asked (Ok figures) said is = subst HasName (sym is.2) tt
answer-named has_risk issue asked (Err refusal) said is = subst HasName (sym is) (numbered refusal)

said-by-named : (Prices : Pricing) (has_risk : Bool) (found : Option IssueRow) (asked : Asked) (said : FiguresSaid) → IsSaidBy Prices has_risk found asked said → HasName said
said-by-named Prices has_risk None asked said is = subst HasName (sym is) (omega arith, omega arith)
said-by-named Prices has_risk (Some issue) asked said (answer, priced, is) = answer-named has_risk issue asked answer said is

-- each refusal has a name
pub said-named : (Prices : Pricing) (has_risk : Bool) (kept : List ℕ → Option IssueRow) (row : Row) (said : FiguresSaid) → IsSaid Prices has_risk kept row said → HasName said
unfolding IsSaid
said-named Prices has_risk kept (Err fault) said is = subst HasName (sym is) tt
said-named Prices has_risk kept (Ok asked) said is = said-by-named Prices has_risk (kept asked.cusip) asked said is

-- what hangs on the row alone
shown-by : (has_risk : Bool) (issue : IssueRow) (asked : Asked) (figures : Figures) (columns : RiskColumns) → AreColumns has_risk issue asked figures columns → are_shown columns ≡ has_risk
shown-by false issue asked figures columns is = ap are_shown is
shown-by true issue asked figures LeftOut is = absurd is
shown-by true issue asked figures (Shown risk) is = refl

answer-shape : (has_risk : Bool) (issue : IssueRow) (asked : Asked) (answer : Result Figures Refusal) (said : FiguresSaid) → IsSaidTo has_risk issue asked answer said → IsSaidOf has_risk (Ok asked) said
answer-shape has_risk issue asked (Ok figures) said is = subst (IsSaidOf has_risk (Ok asked)) (sym is.2) (shown-by has_risk issue asked figures is.0 is.1)
answer-shape has_risk issue asked (Err refusal) said is = subst (IsSaidOf has_risk (Ok asked)) (sym is) tt

shape-by : (Prices : Pricing) (has_risk : Bool) (found : Option IssueRow) (asked : Asked) (said : FiguresSaid) → IsSaidBy Prices has_risk found asked said → IsSaidOf has_risk (Ok asked) said
shape-by Prices has_risk None asked said is = subst (IsSaidOf has_risk (Ok asked)) (sym is) tt
shape-by Prices has_risk (Some issue) asked said (answer, priced, is) = answer-shape has_risk issue asked answer said is

shape-of : (Prices : Pricing) (has_risk : Bool) (kept : List ℕ → Option IssueRow) (row : Row) (said : FiguresSaid) → IsSaid Prices has_risk kept row said → IsSaidOf has_risk row said
unfolding IsSaid
shape-of Prices has_risk kept (Err fault) said is = is
shape-of Prices has_risk kept (Ok asked) said is = shape-by Prices has_risk (kept asked.cusip) asked said is

by-tables : (Prices : Pricing) (has_risk : Bool) (tables : Tables) (issue : List ℕ → Option IssueRow) (row : Row) (said : FiguresSaid) → IsFetched tables issue row → IsSaid Prices has_risk issue row said → IsSaid Prices has_risk (issue_at tables) row said
unfolding IsSaid
by-tables Prices has_risk tables issue (Err fault) said fetched is = is
by-tables Prices has_risk tables issue (Ok asked) said fetched is = subst (λ found. IsSaidBy Prices has_risk found asked said) fetched is

told-of : (Prices : Pricing) (has_risk : Bool) (told : Option Tables) (issue : List ℕ → Option IssueRow) (row : Row) (said : FiguresSaid) → IfSome told (λ t. IsFetched t issue row) → IsSaid Prices has_risk issue row said → IsToldOf Prices has_risk told row said
told-of Prices has_risk None issue row said fetched is = record { shape = shape-of Prices has_risk issue row said is; right = tt }
told-of Prices has_risk (Some t) issue row said fetched is = record { shape = shape-of Prices has_risk issue row said is; right = by-tables Prices has_risk t issue row said fetched is }

-- the same of all rows
pub all-told : (Prices : Pricing) (has_risk : Bool) (told : Option Tables) (issue : List ℕ → Option IssueRow) (rows : List Row) (said : List FiguresSaid) → AllByRecursion (λ row. IfSome told (λ t. IsFetched t issue row)) rows
    → AllZip (IsSaid Prices has_risk issue) rows said → AllZip (IsToldOf Prices has_risk told) rows said
all-told Prices has_risk told issue [] [] fetched are = tt
all-told Prices has_risk told issue [] (one ∷ said) fetched are = absurd are
all-told Prices has_risk told issue (row ∷ rows) [] fetched are = absurd are
all-told Prices has_risk told issue (row ∷ rows) (one ∷ said) fetched are = (told-of Prices has_risk told issue row one fetched.0 are.0, all-told Prices has_risk told issue rows said fetched.1 are.1)
