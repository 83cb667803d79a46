-- The rows that a reader has left.
use Rattle.std.specs.Prelude.{◌≡◌, ◌⊎◌, ℕ, List, [], Bool, true, if◌then◌else◌, Option, Some, option_map}
use denote.Ref.{Bor}
use Rattle.csv.specs.Reading.{default_config, source_of, Ready}
use Rattle.csv.specs.declared.reader.Reader.{Reader}
use Rattle.csv.specs.declared.reader.Trim.TheVariants as trim
use Rattle.muni_import.specs.Row.{Row}
use Rattle.muni_import.specs.Rows.{rows_from}

-- a slice has the bytes that stand in it
abbrev pub bytes_of : Bor (List ℕ) → Option (List ℕ)
bytes_of slice = Some slice.now

-- the rows of the bytes that are left; they are not known of a reader that has failed
abbrev pub rows_left : Bool → Reader (Bor (List ℕ)) → Option (List Row)
rows_left ended reader =
    if ended then Some [] else option_map (rows_from reader.state) (source_of bytes_of reader)

-- it reads records of any length as they stand, or it has failed
abbrev pub IsSound : Reader (Bor (List ℕ)) → Type 0
IsSound reader =
    (reader.failed ≡ true) ⊎ ((reader.trim ≡ trim.None) × Ready reader
    × (reader.config ≡ default_config) × (reader.flexible ≡ true))
