-- What a database lists, to a store.
use Rattle.std.specs.Prelude.{◌≡◌, ℕ, pos, ◌+◌, Bool, true, false, not, if◌then◌else◌, ◌==◌, ◌&&◌, ◌||◌, List, codes, length}
use Rattle.std.specs.List.{Any, list_any}
use Rattle.std.specs.Str.{bytes_eq, str_eq_ignore_ascii_case}
use Rattle.sqlite_value.specs.Order.{Row, column}
use Rattle.sqlite_value.specs.declared.value.Value.{Value}
use Rattle.sqlite_value.specs.declared.value.Value.TheVariants.{Int, Text}
use Rattle.muni_store_trees.specs.declared.places.Places.{Places}
use Rattle.muni_store.specs.declared.schema.TheConstants.{ISSUES, VERSIONS}
use Rattle.muni_store.specs.declared.catalog.Listed.{Listed}
use Rattle.muni_store.specs.declared.catalog.Listed.TheVariants.{Issues, Cusips, Versions, Keys, Old, Beside, Barred}

-- a value that is this text
abbrev pub is_text : Value → List ℕ → Bool
is_text (Text bytes) text = bytes_eq bytes text
is_text _ text = false

-- a value that is this name, in capitals or small letters
abbrev pub is_name : Value → List ℕ → Bool
is_name (Text bytes) name = str_eq_ignore_ascii_case bytes name
is_name _ name = false

-- a row is of a table of a desk: that table, or an index of it, or a trigger on it
abbrev pub is_of_desk : Row → Bool
is_of_desk row = is_name (column row 3) (codes "issues_3") || is_name (column row 3) (codes "versions_3")

-- a row has this type and this name
abbrev pub is_listed_as : Row → (kind name : List ℕ) → Bool
is_listed_as row kind name = is_text (column row 1) kind && is_text (column row 2) name

-- a table has this name, and the text of this statement
abbrev pub is_made_by : Row → (name statement : List ℕ) → Bool
is_made_by row name statement = is_listed_as row (codes "table") name && is_text (column row 4) statement

-- A table of a desk has the text by which a store makes it, and the index of its key the name that sqlite gives it.
-- Anything else of such a table must not be.
abbrev pub kind_of_desk : Row → Listed
kind_of_desk row =
    if is_made_by row (codes "issues_3") ISSUES.now then Issues
    else (if is_made_by row (codes "versions_3") VERSIONS.now then Versions
    else (if is_listed_as row (codes "index") (codes "sqlite_autoindex_issues_3_1") then Cusips
    else (if is_listed_as row (codes "index") (codes "sqlite_autoindex_versions_3_1") then Keys else Barred)))

-- the names of the tables of earlier versions of the program
abbrev pub is_old_name : Value → Bool
is_old_name name =
    is_text name (codes "issues_2") || (is_text name (codes "versions_2") || (is_text name (codes "issues") || is_text name (codes "versions")))

abbrev pub kind_of_row : Row → Listed
kind_of_row row =
    if is_of_desk row then kind_of_desk row
    else (if is_text (column row 1) (codes "table") && is_old_name (column row 2) then Old else Beside)

abbrev pub bars : Listed → Bool
bars Barred = true
bars _ = false

-- a row that must not be
abbrev pub is_barred : Row → Bool
is_barred row = bars (kind_of_row row)

abbrev pub is_table_of_store : Listed → Bool
is_table_of_store Issues = true
is_table_of_store Versions = true
is_table_of_store Old = true
is_table_of_store _ = false

-- a table of a store, of today or of earlier versions
abbrev pub is_table : Row → Bool
is_table row = is_table_of_store (kind_of_row row)

-- what a store lists: nothing yet, or a table of its own, and nothing that must not be on one
abbrev pub is_store : List Row → Bool
is_store rows = (length rows == 0) || (list_any is_table rows && not (list_any is_barred rows))

-- a tree has the number of its row less one
abbrev pub HasNumber : Row → ℕ → Type 0
HasNumber row tree = column row 0 ≡ Int (pos (tree + 1))

abbrev pub IsListed : List Row → Listed → ℕ → Type 0
IsListed rows wanted tree = Any (λ row. (kind_of_row row ≡ wanted) × HasNumber row tree) rows

-- each table and each index of a store is one that is listed so, and nothing is on them that must not be
pub record ArePlaces (rows : List Row) (places : Places) : Type 0 where
  pub issues : IsListed rows Issues places.issues
  pub cusips : IsListed rows Cusips places.cusips
  pub versions : IsListed rows Versions places.versions
  pub keys : IsListed rows Keys places.keys
  pub unbarred : list_any is_barred rows ≡ false
