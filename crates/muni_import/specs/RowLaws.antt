-- What holds of the rows of each text.
use Rattle.std.specs.Prelude.{◌≡◌, ℕ, List, [], ◌∷◌, ◌++◌, length, map}
use Rattle.csv.specs.Reading.{AreRecords, default_config, strip_bom}
use Rattle.csv.specs.declared.parser.State.TheVariants as st
use Rattle.muni_import.specs.Row.{Row, row_of}
use Rattle.muni_import.specs.Rows.{rows_of}

-- rows are those of a text where records are read from it one after another, then none is left, and each
-- of these is a row
pub record AreRows (text : List ℕ) (rows : List Row) : Type 0 where
  pub records : List (List (List ℕ))
  pub all : AreRecords default_config st.StartRecord (strip_bom text) records
  pub read : rows ≡ map row_of records

-- every text has rows
abbrev pub TextsHaveRows : Type 0
TextsHaveRows = (text : List ℕ) → AreRows text (rows_of text)

-- and no others
abbrev pub TextsHaveNoOtherRows : Type 0
TextsHaveNoOtherRows = (text : List ℕ) (rows : List Row) → AreRows text rows → rows ≡ rows_of text

-- after a name and so many fields, an empty last field may be left out
abbrev pub LastMayBeLeftOut : List ℕ → ℕ → Type 0
LastMayBeLeftOut name count =
    (fields : List (List ℕ)) → length fields ≡ count → row_of (name ∷ fields ++ [] ∷ []) ≡ row_of (name ∷ fields)
