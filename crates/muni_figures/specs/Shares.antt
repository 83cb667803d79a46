-- The blocks of a group, which workers share.
use Rattle.std.specs.Prelude.{◌≡◌, ◌<◌, ◌≤◌, ◌^◌, ⊤, ℕ, ◌+◌, List, [], ◌∷◌, length, Option, Result, Ok, Err, IfOk, IsOk}
use Rattle.std.specs.List.{flat_map}
use Rattle.muni_terms.specs.declared.row.IssueRow.{IssueRow}
use Rattle.muni_desk_io.specs.declared.fault.Fault.{Fault}
use Rattle.muni_desk_io.specs.declared.fault.Fault.TheVariants as fault
use Rattle.muni_figures.specs.Done.{AreDone}
use Rattle.muni_figures.specs.Issues.{IsScan}
use Rattle.muni_figures.specs.Rows.{Row, rows_in}
use Rattle.muni_edge.specs.declared.fault.NoMemory.{NoMemory}
use Rattle.muni_figures.specs.declared.scan.Scan.{Scan}
use Rattle.muni_figures.specs.declared.said.FiguresSaid.{FiguresSaid}
use Rattle.muni_figures.specs.declared.shares.Share.{Share}

-- the rows of a block, and of all blocks
abbrev pub rows_of_share : Share → List Row
rows_of_share share = rows_in share.block.items

abbrev pub rows_of_shares : List Share → List Row
rows_of_shares shares = flat_map rows_of_share shares

-- a worker went over the rows of a block
pub record IsScanned (issue : List ℕ → Option IssueRow) (old new : Share) : Type 0 where
  pub block : new.block ≡ old.block
  pub scanned : IfOk new.scan (λ scan. IsScan issue (rows_of_share old) scan)

-- the first row of a block has a place, and those after it have places too
abbrev pub HasPlaces : Share → Type 0
HasPlaces share = share.place + length (rows_of_share share) < 2 ^ 64

-- a worker priced the rows of a block
pub record IsPricedShare (Answers : Row → FiguresSaid → Type 0) (old new : Share) : Type 0 where
  pub block : new.block ≡ old.block
  pub place : new.place ≡ old.place
  pub lines : IfOk new.lines (λ lines. AreDone Answers old.place (rows_of_share old) lines.text.items lines.tally)

-- the places of blocks count on from a place
abbrev pub AreNumbered : ℕ → List Share → Type 0
AreNumbered place [] = ⊤
AreNumbered place (share ∷ shares) =
    (share.place ≡ place) × HasPlaces share × AreNumbered (place + length (rows_of_share share)) shares

-- the CUSIPs of rows whose issue was not had
abbrev pub unknown_of : Result Scan NoMemory → List (List ℕ)
unknown_of (Ok scan) = scan.unknown.items
unknown_of (Err none) = []

abbrev pub unknown_of_share : Share → List (List ℕ)
unknown_of_share share = unknown_of share.scan

abbrev pub unknown_of_shares : List Share → List (List ℕ)
unknown_of_shares shares = flat_map unknown_of_share shares

-- memory sufficed for a worker to go over its rows
abbrev pub HasScan : Share → Type 0
HasScan share = IsOk share.scan

-- how many rows it has is known, if memory sufficed for that
abbrev pub IsCounted : Share → Type 0
IsCounted share = IfOk share.scan (λ scan. scan.rows ≡ length (rows_of_share share))

-- nothing of it changes but its place
abbrev pub IsSameBlock : Share → Share → Type 0
IsSameBlock old new = new ≡ record old { place = new.place }

-- the place after the rows that were counted
abbrev pub NextPlace : ℕ → Result Scan NoMemory → Result ℕ Fault → Type 0
NextPlace place (Err none) result = result ≡ Err fault.NoMemory
NextPlace place (Ok scan) (Ok next) = (next ≡ place + scan.rows) × (next < 2 ^ 64)
NextPlace place (Ok scan) (Err why) = (why ≡ fault.TooLarge) × (2 ^ 64 ≤ place + scan.rows)

-- why blocks have no places
abbrev pub IsForPlaces : Fault → Type 0
IsForPlaces fault.TooLarge = ⊤
IsForPlaces fault.NoMemory = ⊤
IsForPlaces other = ⊥
