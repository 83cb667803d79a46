-- What is found in the trees of the tables.
use Rattle.std.specs.Prelude.{◌≡◌, ℕ, ℤ, pos, List, [], ◌∷◌, ◌++◌, drop, reverse, take, min, ◌-◌, ◌^◌, length, Bool, true, false, Option, Some, None, option_map, slice_get, ⊤, if◌then◌else◌}
use Rattle.std.specs.List.{filter}
use Rattle.std.specs.Ordering.{int_eq}
use Rattle.std.specs.Str.{bytes_eq}
use Rattle.sqlite_value.specs.declared.value.Value.{Value}
use Rattle.sqlite_value.specs.declared.value.Value.TheVariants.{Int}
use Rattle.sqlite_value.specs.Order.{Row, column}
use Rattle.sqlite_trees.specs.Tree.{Trees, has_rowid}
use Rattle.sqlite_trees.specs.View.{View}
use Rattle.muni_terms.specs.declared.row.IssueRow.{IssueRow}
use Rattle.muni_msg.specs.declared.command.Key.{Key}
use Rattle.muni_msg.specs.declared.command.Line.{Line}
use Rattle.muni_msg.specs.declared.version.Version.{Version}
use Rattle.muni_store_trees.specs.declared.places.Places.{Places}
use Rattle.muni_store_trees.specs.Entries.{matching, from, Scans}
use Rattle.muni_store_trees.specs.Keys.{text_key, issue_key, trade_key, version_key, least_past, trade_key_past}
use Rattle.muni_store_trees.specs.Rows.{text_in, number_in, numbered_in, trade_in, desk_in, reference_at}

-- a table has one row with the rowid in a value, and it is this
pub record HasRow (rows : List Row) (value : Value) (row : Row) : Type 0 where
  pub id : ℤ
  pub is_id : value ≡ Int id
  pub found : filter (has_rowid id) rows ≡ row ∷ []

-- an entry has the CUSIP and the number of these terms
pub record HasTerms (entry : Row) (found : ℕ × IssueRow) : Type 0 where
  pub has_cusip : text_in entry 0 ≡ found.1.cusip
  pub has_number : number_in entry 1 ≡ pos found.0

-- the entry of a CUSIP and a number leads to the row of these terms
pub record ReadsIssue (rows : List Row) (entry : Row) (found : ℕ × IssueRow) : Type 0 where
  pub row : Row
  pub leads : HasRow rows (column entry 2) row
  pub read : numbered_in (drop 1 row) ≡ Some found
  pub same : HasTerms entry found

-- the same, and they are of the issue of a CUSIP
abbrev pub ReadsIssueOf : List Row → List ℕ → Row → ℕ × IssueRow → Type 0
ReadsIssueOf rows cusip entry found = (found.1.cusip ≡ cusip) × ReadsIssue rows entry found

-- an entry has the key of a version
pub record HasKey (entry : Row) (key : Key) (number : ℕ) : Type 0 where
  pub has_desk : text_in entry 0 ≡ key.desk
  pub has_reference : text_in entry 1 ≡ key.reference
  pub has_number : number_in entry 2 ≡ pos number

-- the entry of a key leads to the row of this version
pub record ReadsVersion (rows : List Row) (entry : Row) (trade : Key × ℕ × Version) : Type 0 where
  pub row : Row
  pub leads : HasRow rows (column entry 3) row
  pub read : trade_in (drop 1 row) ≡ Some trade
  pub same : HasKey entry trade.0 trade.1

-- what was found is read at this entry, and nothing was found if there is none
abbrev pub AtEntry : {A : Type 0} → (Row → A → Type 0) → Option Row → Option A → Type 0
AtEntry Reads entry None = entry ≡ None
AtEntry Reads entry (Some answer) = (here : Row) × (entry ≡ Some here) × Reads here answer

-- an entry of the first version of a trade
abbrev pub is_first_version : Row → Bool
is_first_version entry = int_eq (number_in entry 2) (pos 1)

-- of entries of one desk, the last one of each trade
abbrev pub last_of_each : List Row → List Row
last_of_each [] = []
last_of_each (entry ∷ []) = entry ∷ []
last_of_each (entry ∷ following ∷ more) =
    if bytes_eq (text_in entry 1) (text_in following 1) then last_of_each (following ∷ more) else entry ∷ last_of_each (following ∷ more)

-- the trade of a desk in a line, with the number and the version
abbrev pub traded : List ℕ → Line → Key × ℕ × Version
traded desk line = (record { desk = desk; reference = line.reference }, line.number, line.version)

-- the line of the trade of a desk to which an entry leads
abbrev pub IsLineAt : List Row → List ℕ → Row → Line → Type 0
IsLineAt rows desk entry line = ReadsVersion rows entry (traded desk line)

-- this line is added to others
abbrev pub AddsLine : List Row → List ℕ → Row → (old new : List Line) → Type 0
AddsLine rows desk entry old new = (line : Line) × (new ≡ old ++ line ∷ []) × IsLineAt rows desk entry line

-- the line of each entry, in their order
abbrev pub AreLines : List Row → List ℕ → List Row → List Line → Type 0
AreLines rows desk [] [] = ⊤
AreLines rows desk (entry ∷ entries) (line ∷ lines) =
    IsLineAt rows desk entry line × AreLines rows desk entries lines
AreLines rows desk _ _ = ⊥

-- where a scan of a desk stands after it has passed over a trade: at the first entry of the next one, if there is one
abbrev pub IsPast : View → Row → List Row → Row → Row → Bool → Type 0
IsPast view key entries last following true = (left : List Row) × (last_of_each entries ≡ last ∷ last_of_each (following ∷ left)) × Scans view key left
IsPast view key entries last following false = last_of_each entries ≡ last ∷ []

abbrev pub first : List Row → Option Row
first entries = slice_get entries 0

module _ (places : Places) (trees : Trees) where
  -- the issue of a CUSIP by its last terms, with their number
  abbrev pub IsLastIssue : List ℕ → Option (ℕ × IssueRow) → Type 0
  IsLastIssue cusip =
      AtEntry (ReadsIssueOf (trees places.issues) cusip)
      (first (reverse (matching (text_key cusip) (trees places.cusips))))

  -- the issue of a CUSIP by its last terms
  abbrev pub IsIssue : List ℕ → Option IssueRow → Type 0
  IsIssue cusip found = (last : Option (ℕ × IssueRow)) × IsLastIssue cusip last × (found ≡ option_map (λ terms. terms.1) last)

  -- the issue of a CUSIP by its terms with a number
  abbrev pub IsIssueNumbered : List ℕ → ℕ → Option IssueRow → Type 0
  IsIssueNumbered cusip number =
      AtEntry (λ entry issue. ReadsIssueOf (trees places.issues) cusip entry (number, issue))
      (first (matching (issue_key cusip number) (trees places.cusips)))

  -- the first CUSIP after another, and its issue by its last terms
  abbrev pub IsIssuePast : Option (List ℕ) → Option (List ℕ × IssueRow) → Type 0
  IsIssuePast after =
      AtEntry (λ entry found. (text_in entry 0 ≡ found.0) × IsIssue found.0 (Some found.1))
      (first (from (text_key (least_past after)) (trees places.cusips)))

  -- the first desk after another
  abbrev pub IsDeskPast : Option (List ℕ) → Option (List ℕ) → Type 0
  IsDeskPast after =
      AtEntry (λ entry desk. desk_in entry ≡ Some desk) (first (from (text_key (least_past after)) (trees places.keys)))

  -- the version of a trade with a number
  abbrev pub IsVersion : Key → ℕ → Option Version → Type 0
  IsVersion key number =
      AtEntry (λ entry version. ReadsVersion (trees places.versions) entry (key, number, version))
      (first (matching (version_key key number) (trees places.keys)))

  -- the last version of a trade, with its number
  abbrev pub IsLast : Key → Option (ℕ × Version) → Type 0
  IsLast key =
      AtEntry (λ entry last. ReadsVersion (trees places.versions) entry (key, last.0, last.1))
      (first (reverse (matching (trade_key key) (trees places.keys))))

  -- the reference of the trade that is followed by 50 of its desk
  abbrev pub IsBeforeLatest : List ℕ → Option (List ℕ) → Type 0
  IsBeforeLatest desk =
      AtEntry (λ entry reference. reference_at entry 1 ≡ Some reference)
      (slice_get (filter is_first_version (reverse (matching (text_key desk) (trees places.keys)))) 50)

  -- how many trades a desk has, as far as 32 bits count
  abbrev pub trade_count : List ℕ → ℕ
  trade_count desk = min (length (filter is_first_version (matching (text_key desk) (trees places.keys)))) (2 ^ 32 - 1)

  -- the first 50 trades of a desk after a reference, each with its last version
  abbrev pub IsPage : List ℕ → Option (List ℕ) → List Line → Type 0
  IsPage desk after =
      AreLines (trees places.versions) desk
      (take 50 (last_of_each (matching (text_key desk) (from (trade_key_past desk after) (trees places.keys)))))
