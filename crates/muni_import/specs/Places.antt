-- Where a text stands, as far as the ends of its rows hang on it.
use Rattle.std.specs.Prelude.{◌≡◌, ◌⊎◌, ◌==◌, ◌||◌, if◌then◌else◌, ⊤, ℕ, Bool, true, false, List, [], ◌∷◌, ◌++◌, length}
use Rattle.muni_import.specs.declared.place.Place.{Place}
use Rattle.muni_import.specs.declared.place.Place.TheVariants.{Start, AfterOne, AfterTwo, Row, Field, Inside, Quoted, Unquoted}

abbrev pub is_line_end : ℕ → Bool
is_line_end byte = (byte == 13) || (byte == 10)

-- after one byte more: where the text stands, and whether a row or an empty line ends with the byte
abbrev pub in_field : ℕ → Place × Bool
in_field byte =
    if byte == 44 then (Field, false)
    else (if is_line_end byte then (Row, true) else (Inside, false))

abbrev pub before_field : ℕ → Place × Bool
before_field byte = if byte == 34 then (Quoted, false) else in_field byte

abbrev pub before_row : ℕ → Place × Bool
before_row byte = if is_line_end byte then (Row, true) else before_field byte

abbrev pub before_text : ℕ → Place × Bool
before_text byte = if byte == 0xEF then (AfterOne, false) else before_row byte

abbrev pub by_mark : Bool → Place → ℕ → Place × Bool
by_mark goes_on place byte = if goes_on then (place, false) else in_field byte

abbrev pub in_quotes : ℕ → Place × Bool
in_quotes byte = if byte == 34 then (Unquoted, false) else (Quoted, false)

abbrev pub after_quote : ℕ → Place × Bool
after_quote byte = if byte == 34 then (Quoted, false) else in_field byte

abbrev pub step : Place → ℕ → Place × Bool
step Start byte = before_text byte
step AfterOne byte = by_mark (byte == 0xBB) AfterTwo byte
step AfterTwo byte = by_mark (byte == 0xBF) Row byte
step Row byte = before_row byte
step Field byte = before_field byte
step Inside byte = in_field byte
step Quoted byte = in_quotes byte
step Unquoted byte = after_quote byte

-- after bytes
abbrev pub passed : Place → List ℕ → Place
passed place [] = place
passed place (byte ∷ rest) = passed (step place byte).0 rest

-- no row ends in bytes
abbrev pub NoneEnds : Place → List ℕ → Type 0
NoneEnds place [] = ⊤
NoneEnds place (byte ∷ rest) = ((step place byte).1 ≡ false) × NoneEnds (step place byte).0 rest

-- a row ends with the last of bytes
pub record EndsLast (place : Place) (bytes : List ℕ) : Type 0 where
  pub front : List ℕ
  pub byte : ℕ
  pub joined : bytes ≡ front ++ byte ∷ []
  pub is_end : (step (passed place front) byte).1 ≡ true

-- bytes lead from one place to another, and so many of them come up to the last end of a row
pub record Passes (from : Place) (bytes : List ℕ) (end : ℕ) (to : Place) : Type 0 where
  pub whole : List ℕ
  pub begun : List ℕ
  pub joined : bytes ≡ whole ++ begun
  pub counted : length whole ≡ end
  pub ended : (end ≡ 0) ⊎ EndsLast from whole
  pub none_more : NoneEnds (passed from whole) begun
  pub stands : to ≡ passed from bytes
