-- The rows of a text.
use Rattle.std.specs.Prelude.{ℕ, ◌+◌, ◌≡◌, List, drop, length, map, slice_get, Option, Some}
use Rattle.csv.specs.Reading.{default_config, records, records_from, strip_bom}
use Rattle.csv.specs.declared.parser.State.{State}
use Rattle.muni_import.specs.Row.{Row, row_of}

-- the records of a text: a mark of its byte order is no part of it
abbrev pub records_of : List ℕ → List (List (List ℕ))
records_of text = records default_config (strip_bom text)

-- the rows of bytes, read on from a state
unfoldable pub rows_from : State → List ℕ → List Row
rows_from state bytes = map row_of (records_from default_config (length bytes + 1) state bytes)

-- the rows of a text: a mark of its byte order is no part of it, and each record of the rest is a row
unfoldable pub rows_of : List ℕ → List Row
rows_of text = map row_of (records default_config (strip_bom text))

-- the first of the rows that are left, if there is one, and those after it
pub record IsNext (left : List Row) (next : Option Row) (behind : Option (List Row)) : Type 0 where
  pub first : next ≡ slice_get left 0
  pub rest : behind ≡ Some (drop 1 left)
