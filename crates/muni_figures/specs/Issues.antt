-- What is known of the issues that rows name.
use Rattle.std.specs.Prelude.{◌≡◌, ◌⊎◌, ⊤, ℕ, List, length, Option, IsSome, Contains, Ok, Err}
use Rattle.std.specs.List.{AllByRecursion}
use Rattle.muni_terms.specs.declared.row.IssueRow.{IssueRow}
use Rattle.muni_keep.specs.Tables.{Tables}
use Rattle.muni_marks.specs.Portfolio.{IsKnown}
use Rattle.muni_figures.specs.Rows.{Row}
use Rattle.muni_figures.specs.declared.scan.Scan.{Scan}

-- the issues that were found are as the tables have them
abbrev pub AreFound : Tables → (List ℕ → Option IssueRow) → Type 0
AreFound tables issue = (cusip : List ℕ) → IsSome (issue cusip) → IsKnown tables issue cusip

-- an issue that a row names is had, or its CUSIP is among those that are asked for
abbrev pub IsNamed : (List ℕ → Option IssueRow) → List (List ℕ) → Row → Type 0
IsNamed issue unknown (Err fault) = ⊤
IsNamed issue unknown (Ok asked) = IsSome (issue asked.cusip) ⊎ Contains unknown asked.cusip

-- one row more is named, and those before it as before
pub record NamesRow (issue : List ℕ → Option IssueRow) (row : Row) (old new : List (List ℕ)) : Type 0 where
  pub named : IsNamed issue new row
  pub kept : (cusip : List ℕ) → Contains old cusip → Contains new cusip

-- how many rows there are, and the CUSIPs of those whose issue is not had
pub record IsScan (issue : List ℕ → Option IssueRow) (rows : List Row) (scan : Scan) : Type 0 where
  pub counted : scan.rows ≡ length rows
  pub named : AllByRecursion (IsNamed issue scan.unknown.items) rows

-- It is known of some CUSIPs what is kept, and of each of which it was known before.
pub record AreAsked (tables : Tables) (unknown : List (List ℕ)) (old new : List ℕ → Option IssueRow) : Type 0 where
  pub found : AreFound tables new
  pub these : (cusip : List ℕ) → Contains unknown cusip → IsKnown tables new cusip
  pub others : (cusip : List ℕ) → IsKnown tables old cusip → IsKnown tables new cusip
