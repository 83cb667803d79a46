-- The marks of a portfolio over the tables of a desk.
use Rattle.std.specs.Prelude.{◌≡◌, ℕ, Bool, true, List, Option, IsSome, Result, Ok, Err, ⊤}
use Rattle.std.specs.List.{AllByRecursion, AllZip}
use Rattle.muni_terms.specs.declared.row.IssueRow.{IssueRow}
use Rattle.muni_msg.specs.declared.asked.Asked.{Asked}
use Rattle.muni_keep.specs.Tables.{Tables, issue_at}
use Rattle.muni_import.specs.declared.row.RowFault.{RowFault}
use Rattle.muni_marks.specs.Line.{marks_text}
use Rattle.muni_marks.specs.Marks.{Pricing, AreMarks, IsMarkOf}
use Rattle.muni_marks.specs.Rows.{rows_of}
use Rattle.muni_marks.specs.declared.pricing.MarkSaid.{MarkSaid}

-- of a CUSIP it is known what is kept
abbrev pub IsKnown : Tables → (List ℕ → Option IssueRow) → List ℕ → Type 0
IsKnown tables issue cusip = issue cusip ≡ issue_at tables cusip

-- it is known of each that was found and of each that is missing
pub record AreKnown (tables : Tables) (issue : List ℕ → Option IssueRow) (is_missing : List ℕ → Bool) : Type 0 where
  pub found : (cusip : List ℕ) → IsSome (issue cusip) → IsKnown tables issue cusip
  pub missing : (cusip : List ℕ) → is_missing cusip ≡ true → IsKnown tables issue cusip

-- it is known of one CUSIP more, and of those before it as before
pub record IsKnownNext (tables : Tables) (cusip : List ℕ) (old new : List ℕ → Option IssueRow) (is_missing : List ℕ → Bool) : Type 0 where
  pub are : AreKnown tables new is_missing
  pub this : IsKnown tables new cusip
  pub others : (other : List ℕ) → IsKnown tables old other → IsKnown tables new other

-- and of the CUSIP of each row
abbrev pub IsFetched : Tables → (List ℕ → Option IssueRow) → Result Asked RowFault → Type 0
IsFetched tables issue (Err fault) = ⊤
IsFetched tables issue (Ok asked) = IsKnown tables issue asked.cusip

abbrev pub AreFetched : Tables → (List ℕ → Option IssueRow) → List (Result Asked RowFault) → Type 0
AreFetched tables issue rows = AllByRecursion (IsFetched tables issue) rows

-- the lines of a portfolio: each row of the text is marked by itself
pub record IsPortfolioText (Prices : Pricing) (tables : Tables) (text : List ℕ) (lines : List ℕ) : Type 0 where
  pub said : List MarkSaid
  pub marks : AreMarks Prices (issue_at tables) (rows_of text) said
  pub written : lines ≡ marks_text said

-- the lines of a portfolio, as far as they hang on its rows alone: one on each, in their order and with their
-- places, and the total
pub record HasLineOnEach (text lines : List ℕ) : Type 0 where
  pub said : List MarkSaid
  pub each : AllZip IsMarkOf (rows_of text) said
  pub written : lines ≡ marks_text said
