-- The rows of an input: its lines, and the fields of each.
use Rattle.std.specs.Prelude.{ℕ, ◌==◌, ◌&&◌, nat_le, nat_lt, if◌then◌else◌, Bool, List, [], ◌∷◌, length, Option, Some, None, Result, Ok, Err}
use Rattle.std.specs.List.{flat_map, slice_split}
use Rattle.std.specs.Result.{result_ok}
use Rattle.std.specs.Str.Lines.{strip_carriage_return}
use Rattle.csv.specs.Reading.{strip_bom}
use Rattle.muni_dec.specs.Values.{par_reading}
use Rattle.muni_msg.specs.Fields.{day_in, fee_field, side_reading}
use Rattle.muni_msg.specs.IssueFields.{cusip_reading}
use Rattle.muni_msg.specs.declared.asked.Asked.{Asked}
use Rattle.muni_msg.specs.declared.asked.Side.{Side}
use Rattle.muni_msg.specs.declared.asked.Side.TheVariants.{Buy}
use Rattle.muni_import.specs.Row.{◌>>=◌, field, given_in, in_column}
use Rattle.muni_import.specs.declared.row.RowFault.{RowFault}
use Rattle.muni_import.specs.declared.row.RowFault.TheVariants.{FieldCount}

-- what a row asks for, or why it is none
abbrev pub Row : Type 0
Row = Result Asked RowFault

-- the parts of a text between those bytes that are this one
abbrev pub parts : ℕ → List ℕ → List (List ℕ)
parts byte text = slice_split (λ b. b == byte) text

-- those of what is left of a text, if anything is
abbrev pub parts_left : ℕ → Option (List ℕ) → List (List ℕ)
parts_left byte None = []
parts_left byte (Some text) = parts byte text

-- a side, which may be left out for a buy
abbrev pub side_field : List ℕ → Option Side
side_field text = if length text == 0 then Some Buy else side_reading text

-- what the fields of a row ask for: CUSIP, PAR, SETTLE, BASIS, VALUE, FEE and SIDE
unfoldable pub asked_in : List (List ℕ) → Row
asked_in fields = do
  cusip ← in_column 1 (cusip_reading (field 1 fields))
  par ← in_column 2 (result_ok (par_reading (field 2 fields)))
  settle ← in_column 3 (day_in (field 3 fields))
  given ← given_in 4 fields
  fee ← in_column 6 (fee_field (field 6 fields))
  side ← in_column 7 (side_field (field 7 fields))
  Ok (record { cusip = cusip; par = par; settle = settle; given = given; side = side; fee = fee })

-- the last two fields may be left out
abbrev pub has_count : ℕ → Bool
has_count count = nat_le 5 count && nat_le count 7

-- what a row asks for, whose fields are counted before any of them is read
unfoldable pub row_by : List (List ℕ) → Row
row_by fields = if has_count (length fields) then asked_in fields else Err FieldCount

-- the fields of a line, which has no quotes
abbrev pub fields_in : List ℕ → List (List ℕ)
fields_in line = parts 44 (strip_carriage_return line)

-- what a line asks for; one of more than 4,096 bytes is no row
unfoldable pub row_of : List ℕ → Row
row_of line = if nat_lt 4_096 (length line) then Err FieldCount else row_by (fields_in line)

-- a line is a row, unless it is empty
abbrev pub is_row : List ℕ → Bool
is_row line = nat_lt 0 (length (strip_carriage_return line))

abbrev pub row_in : List ℕ → List Row
row_in line = if is_row line then row_of line ∷ [] else []

-- the rows of lines, and those of the lines between the line feeds of bytes
abbrev pub rows_of_lines : List (List ℕ) → List Row
rows_of_lines lines = flat_map row_in lines

unfoldable pub rows_in : List ℕ → List Row
rows_in bytes = rows_of_lines (parts 10 bytes)

-- the rows of an input: a mark of its byte order is no part of it
abbrev pub rows_of : List ℕ → List Row
rows_of text = rows_in (strip_bom text)
