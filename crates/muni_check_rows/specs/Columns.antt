-- The columns of an input, which its first line names in any order.
use Rattle.std.specs.Prelude.{◌||◌, ◌+◌, ◌==◌, not, nat_le, if◌then◌else◌, Bool, ℕ, List, [], ◌∷◌, ◌++◌, length, position, Option, Some, None, Result, Ok, Err}
use Rattle.std.specs.List.{list_any}
use Rattle.std.specs.Str.{bytes_eq}
use Rattle.muni_import.specs.Row.{◌>>=◌, field}
use Rattle.muni_import.specs.declared.row.RowFault.{RowFault}
use Rattle.muni_import.specs.declared.row.RowFault.TheVariants.{FieldCount, BadField}
use Rattle.muni_msg.specs.Columns.{column_named, name_of}
use Rattle.muni_msg.specs.declared.column.Column.{Column}

-- where a column stands among those of an input, counted from 0
abbrev pub place_of : List Column → Column → Option ℕ
place_of columns column = position (λ other. bytes_eq (name_of other) (name_of column)) columns

-- a column is among others
abbrev pub has_column : List Column → Column → Bool
has_column columns column = list_any (λ other. bytes_eq (name_of other) (name_of column)) columns

-- columns with one more: it has to be known and must not be there yet, and there are 22 in all
abbrev pub with_column : List Column → Option Column → Result (List Column) RowFault
with_column columns None = Err (BadField (length columns + 1))
with_column columns (Some column) =
    if has_column columns column || nat_le 22 (length columns)
    then Err (BadField (length columns + 1)) else Ok (columns ++ column ∷ [])

-- columns with those of names, or the place of the first name that is unknown or stands there twice
abbrev pub with_columns : List Column → List (List ℕ) → Result (List Column) RowFault
with_columns columns [] = Ok columns
with_columns columns (name ∷ names) =
    with_column columns (column_named name) >>= λ more. with_columns more names

-- the columns that a first line names
unfoldable pub columns_in : List (List ℕ) → Result (List Column) RowFault
columns_in names = with_columns [] names

-- the text at a place of a row; one that is not there is empty
abbrev pub text_at : List (List ℕ) → Option ℕ → List ℕ
text_at fields None = []
text_at fields (Some place) = field (place + 1) fields

-- the text of a column in a row
abbrev pub text_in : List Column → List (List ℕ) → Column → List ℕ
text_in columns fields column = text_at fields (place_of columns column)

-- a row states something in a column, or in one of several
abbrev pub states : List Column → List (List ℕ) → Column → Bool
states columns fields column = not (length (text_in columns fields column) == 0)

abbrev pub states_any : List Column → List (List ℕ) → List Column → Bool
states_any columns fields some = list_any (states columns fields) some

-- a column is needed and does not read, or is not there at all
abbrev pub fault_at : Option ℕ → RowFault
fault_at None = FieldCount
fault_at (Some place) = BadField (place + 1)

abbrev pub fault_in : List Column → Column → RowFault
fault_in columns column = fault_at (place_of columns column)
