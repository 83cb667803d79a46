-- The rows of a text that comes a piece at a time.
use Rattle.std.specs.Prelude.{◌≡◌, ◌≤◌, ⊤, ℕ, List, [], ◌∷◌, ◌++◌, length}
use Rattle.muni_import.specs.Places.{NoneEnds, passed, step}
use Rattle.muni_import.specs.Rows.{records_of, rows_of}
use Rattle.muni_import.specs.declared.place.Place.{Place}
use Rattle.muni_import.specs.declared.place.Place.TheVariants.{Start}

-- a block is cut off at the front of a text: whatever comes after the text, its rows are those of the block, and
-- then those of what is held and of what comes; what is held has one row at most
pub record CutsOff (text block held : List ℕ) : Type 0 where
  pub rows : (more : List ℕ) → rows_of (text ++ more) ≡ rows_of block ++ rows_of (held ++ more)
  pub few : length (rows_of held) ≤ 1

-- likewise its records, whatever they are read as
pub record CutsRecords (text block held : List ℕ) : Type 0 where
  pub records : (more : List ℕ) → records_of (text ++ more) ≡ records_of block ++ records_of (held ++ more)
  pub few : length (records_of held) ≤ 1

-- no row ends in a text, unless with its first byte
abbrev pub IsBegun : List ℕ → Type 0
IsBegun [] = ⊤
IsBegun (byte ∷ rest) = NoneEnds (step Start byte).0 rest

-- a text that is held stands here
pub record IsHeld (place : Place) (held : List ℕ) : Type 0 where
  pub stands : place ≡ passed Start held
  pub begun : IsBegun held
