-- What is said of a row.
use Rattle.std.specs.Prelude.{◌≡◌, ⊤, ℕ, List, Option, Some, None, Result, Ok, Err}
use Rattle.std.specs.List.{AllZip}
use Rattle.muni_terms.specs.declared.row.IssueRow.{IssueRow}
use Rattle.muni_msg.specs.Refusal.{number_of}
use Rattle.muni_msg.specs.declared.asked.Asked.{Asked}
use Rattle.muni_msg.specs.declared.figures.Figures.{Figures}
use Rattle.muni_msg.specs.declared.refusal.Refusal.{Refusal}
use Rattle.muni_msg.specs.declared.refusal.Refusal.TheVariants.{UnknownIssue}
use Rattle.muni_import.specs.declared.row.RowFault.{RowFault}
use Rattle.muni_marks.specs.declared.pricing.MarkSaid.{MarkSaid}
use Rattle.muni_marks.specs.declared.pricing.MarkSaid.TheVariants.{Marked, Refused, Bad}

-- which figures, or which refusal, may be answered to what is asked of an issue
abbrev pub Pricing : Type 1
Pricing = IssueRow → Asked → Result Figures Refusal → Type 0

-- the figures of a row, or the number of its refusal
abbrev pub said_of : Asked → Result Figures Refusal → MarkSaid
said_of asked (Ok figures) = Marked asked.cusip figures.price figures.redemption figures.total
said_of asked (Err refusal) = Refused (number_of refusal)

-- a row of an issue is answered by its pricing
abbrev pub IsPriced : Pricing → IssueRow → Asked → MarkSaid → Type 0
IsPriced Prices issue asked said =
    (answer : Result Figures Refusal) × Prices issue asked answer × (said ≡ said_of asked answer)

-- a row of an issue that is kept, or of none
abbrev pub IsMarkBy : Pricing → Option IssueRow → Asked → MarkSaid → Type 0
IsMarkBy Prices None asked said = said ≡ Refused (number_of UnknownIssue)
IsMarkBy Prices (Some issue) asked said = IsPriced Prices issue asked said

-- What is said of a row, by the row alone and the issue that is kept under its CUSIP.
unfoldable pub IsMark : Pricing → (List ℕ → Option IssueRow) → Result Asked RowFault → MarkSaid → Type 0
IsMark Prices kept (Err fault) said = said ≡ Bad fault
IsMark Prices kept (Ok asked) said = IsMarkBy Prices (kept asked.cusip) asked said

-- As far as it hangs on the row alone: one that is no row has its own fault, and any other figures or a refusal.
abbrev pub IsMarkOf : Result Asked RowFault → MarkSaid → Type 0
IsMarkOf (Err fault) said = said ≡ Bad fault
IsMarkOf (Ok asked) (Bad fault) = ⊥
IsMarkOf (Ok asked) said = ⊤

-- what is said of rows, of each by itself
abbrev pub AreMarks : Pricing → (List ℕ → Option IssueRow) → List (Result Asked RowFault) → List MarkSaid → Type 0
AreMarks Prices kept rows said = AllZip (IsMark Prices kept) rows said
