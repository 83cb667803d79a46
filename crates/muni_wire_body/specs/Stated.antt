-- The row of another firm's figures that a body states.
use Rattle.std.specs.Prelude.{ℕ, Bool, false, ◌||◌, List, [], ◌∷◌, codes, if◌then◌else◌, is_some, map, option_map, Option, Some, None}
use Rattle.std.specs.List.{list_all}
use Rattle.std.specs.Result.{result_ok}
use Rattle.std.specs.Str.{bytes_eq}
use Rattle.serde_json.specs.Data.{Data, Members, no_members, member}
use Rattle.serde_json.specs.Find.{get, as_object, as_str}
use Rattle.muni_msg.specs.Fields.{◌>>=◌}
use Rattle.muni_msg.specs.Names.{is_desk_letter}
use Rattle.muni_msg.specs.NameReading.{name_reading}
use Rattle.muni_msg.specs.Columns.{all_columns, column_named, name_of}
use Rattle.muni_msg.specs.declared.column.Column.{Column}

-- the desk whose trades its reference names, if one is given, its columns, and the text of each
pub record RowTexts : Type 0 where
  pub desk : Option (List ℕ)
  pub columns : List Column
  pub fields : List (List ℕ)

-- the text of a column: its member is left out, or it is a string
abbrev pub text_at : Option Data → Option (Option (List ℕ))
text_at None = Some None
text_at (Some found) = option_map (λ text. Some text) (as_str found)

-- a column with its text before others, if it has one
abbrev pub before : Column → Option (List ℕ) → List (Column × List ℕ) → List (Column × List ℕ)
before column None others = others
before column (Some text) others = (column, text) ∷ others

-- those of these columns that have a member, each with its text
unfoldable pub texts_in : List Column → Data → Option (List (Column × List ℕ))
texts_in [] value = Some []
texts_in (column ∷ columns) value = do
  text ← text_at (get (name_of column) value)
  others ← texts_in columns value
  Some (before column text others)

-- a desk by its name, which may be left out
abbrev pub desk_named : Data → Option (List ℕ)
desk_named found = as_str found >>= λ text. result_ok (name_reading is_desk_letter 16 text)

abbrev pub desk_at : Option Data → Option (Option (List ℕ))
desk_at None = Some None
desk_at (Some found) = option_map (λ desk. Some desk) (desk_named found)

-- columns with their texts as a row of a desk
abbrev pub row_of : Option (List ℕ) → List (Column × List ℕ) → RowTexts
row_of desk texts =
    record { desk = desk; columns = map (λ each. each.0) texts; fields = map (λ each. each.1) texts }

-- the row of the members that a value has: each column that has one, in the order of the columns
unfoldable pub members_in : Data → Option RowTexts
members_in value = do
  desk ← desk_at (get (codes "desk") value)
  texts ← texts_in all_columns value
  Some (row_of desk texts)

-- the names of members
abbrev pub names_in : Members → List (List ℕ)
names_in no_members = []
names_in (member name value others) = name ∷ names_in others

-- a member that a row may have: its desk, or a column
abbrev pub is_known : List ℕ → Bool
is_known name = bytes_eq name (codes "desk") || is_some (column_named name)

-- an object, each of whose members is one of these
abbrev pub has_known : Option Members → Bool
has_known None = false
has_known (Some members) = list_all is_known (names_in members)

-- the row that a value states: that of an object with no other members
unfoldable pub row_in : Data → Option RowTexts
row_in value = if has_known (as_object value) then members_in value else None
