-- What is told of a row that is no command. Columns count from 1, and the first names the row.
use Rattle.std.specs.Prelude.{◌≡◌, ◌+◌, ◌-◌, ◌≤◌, ◌↔◌, ◌==◌, ◌||◌, ◌&&◌, ℕ, Bool, true, false, List, [], ◌∷◌, ◌++◌, length, is_some, is_ok, if◌then◌else◌, slice_get, codes, Some, None, Err, IsOk}
use Rattle.std.specs.Char.{is_ascii_alphanumeric}
use Rattle.std.specs.Str.{bytes_eq}
use Rattle.muni_dec.specs.Values.{coupon_reading, par_reading, price_reading, yield_reading}
use Rattle.muni_days.specs.Day.{day_reading}
use Rattle.muni_msg.specs.Fields.{basis_field, side_reading, fee_field, version_number}
use Rattle.muni_msg.specs.IssueFields.{cusip_reading, issue_name_reading}
use Rattle.muni_msg.specs.Names.{is_desk_letter}
use Rattle.muni_msg.specs.NameReading.{name_reading}
use Rattle.muni_msg.specs.Calls.{calls_field}
use Rattle.muni_import.specs.Row.{field, has_count, is_basis, is_kind, issue_number_field, name_of, row_of}
use Rattle.muni_import.specs.declared.row.RowFault.TheVariants.{FieldCount, BadField}
use Rattle.muni_import.specs.declared.row.RowName.{RowName}
use Rattle.muni_import.specs.declared.row.RowName.TheVariants.{Issue, Amendment, Trade, Correction, Cancellation}

-- a text is a day
abbrev pub is_day : List ℕ → Bool
is_day text = is_ok (day_reading text)

-- a first interest date: a day if the kind is periodic, and empty for the other kinds
abbrev pub is_first_date : List ℕ → List ℕ → Bool
is_first_date kind text =
    if bytes_eq kind (codes "periodic") then is_day text else length text == 0

-- the kinds that pay no interest
abbrev pub pays_none : List ℕ → Bool
pays_none kind = bytes_eq kind (codes "zero") || bytes_eq kind (codes "discount")

-- a coupon, which may be empty if no interest is paid
abbrev pub is_coupon : List ℕ → List ℕ → Bool
is_coupon kind text = is_ok (coupon_reading text) || (pays_none kind && (length text == 0))

-- a price if the basis is a price, and else a yield or a rate, which are written alike
abbrev pub is_value : List ℕ → List ℕ → Bool
is_value basis text =
    if bytes_eq basis (codes "price") then is_ok (price_reading text)
    else is_ok (yield_reading text)

-- a text is the name of a desk
abbrev pub is_desk : List ℕ → Bool
is_desk text = is_ok (name_reading is_desk_letter 16 text)

-- a text is the reference of a trade
abbrev pub is_reference : List ℕ → Bool
is_reference text = is_ok (name_reading is_ascii_alphanumeric 20 text)

-- whether the text reads in each column, from the second on: of an issue and of an amendment CUSIP
abbrev pub cusip_columns : List (List ℕ) → List Bool
cusip_columns fields = is_some (cusip_reading (field 2 fields)) ∷ []

-- of the terms of an issue, which begin in a column:
-- NAME, KIND, DATED, FIRST, MATURITY, COUPON, CALLS and DAYS
abbrev pub issue_columns : ℕ → List (List ℕ) → List Bool
issue_columns first fields =
    is_some (issue_name_reading (field first fields))
    ∷ is_kind (field (first + 1) fields)
    ∷ is_day (field (first + 2) fields)
    ∷ is_first_date (field (first + 1) fields) (field (first + 3) fields)
    ∷ is_day (field (first + 4) fields)
    ∷ is_coupon (field (first + 1) fields) (field (first + 5) fields)
    ∷ is_some (calls_field (field (first + 6) fields))
    ∷ is_some (basis_field (field (first + 7) fields))
    ∷ []

-- of every trade: DESK and REFERENCE
abbrev pub key_columns : List (List ℕ) → List Bool
key_columns fields = is_desk (field 2 fields) ∷ is_reference (field 3 fields) ∷ []

-- of an amendment, a correction and a cancel, in a column: NUMBER
abbrev pub number_columns : ℕ → List (List ℕ) → List Bool
number_columns column fields = is_some (version_number (field column fields)) ∷ []

-- of the terms of a trade, which begin in a column:
-- CUSIP, SIDE, PAR, SETTLE, BASIS, VALUE and FEE
abbrev pub terms_columns : ℕ → List (List ℕ) → List Bool
terms_columns first fields =
    is_some (cusip_reading (field first fields))
    ∷ is_some (side_reading (field (first + 1) fields))
    ∷ is_ok (par_reading (field (first + 2) fields))
    ∷ is_day (field (first + 3) fields)
    ∷ is_basis (field (first + 4) fields)
    ∷ is_value (field (first + 4) fields) (field (first + 5) fields)
    ∷ is_some (fee_field (field (first + 6) fields))
    ∷ []

-- of a trade and of a correction, in a column: ISSUE
abbrev pub issue_number_columns : ℕ → List (List ℕ) → List Bool
issue_number_columns column fields = is_some (issue_number_field (field column fields)) ∷ []

-- of a row with a name
abbrev pub columns_of : RowName → List (List ℕ) → List Bool
columns_of Issue fields = cusip_columns fields ++ issue_columns 3 fields
columns_of Amendment fields = cusip_columns fields ++ number_columns 3 fields ++ issue_columns 4 fields
columns_of Trade fields =
    key_columns fields ++ terms_columns 4 fields ++ issue_number_columns 11 fields
columns_of Correction fields =
    key_columns fields ++ number_columns 4 fields ++ terms_columns 5 fields ++ issue_number_columns 12 fields
columns_of Cancellation fields = key_columns fields ++ number_columns 4 fields

-- a row with a name, and with as many fields as its name asks for
pub record IsCounted (name : RowName) (fields : List (List ℕ)) : Type 0 where
  pub named : name_of (field 1 fields) ≡ Some name
  pub counted : has_count name (length fields) ≡ true

-- a column after the name does not read
pub record IsBad (name : RowName) (fields : List (List ℕ)) (column : ℕ) : Type 0 where
  pub behind_name : 2 ≤ column
  pub does_not_read : slice_get (columns_of name fields) (column - 2) ≡ Some false

-- and it is the least of these
pub record IsLeastBad (name : RowName) (fields : List (List ℕ)) (column : ℕ) : Type 0 where
  pub bad : IsBad name fields column
  pub least : (other : ℕ) → IsBad name fields other → column ≤ other

-- if the first field is no name, column 1 is reported
abbrev pub NameIsFirst : Type 0
NameIsFirst =
    (fields : List (List ℕ))
    → name_of (field 1 fields) ≡ None → row_of fields ≡ Err (BadField 1)

-- else, if a row has another number of fields than its name asks for, that is reported
abbrev pub CountIsSecond : Type 0
CountIsSecond =
    (name : RowName) (fields : List (List ℕ)) → name_of (field 1 fields) ≡ Some name
    → has_count name (length fields) ≡ false → row_of fields ≡ Err FieldCount

-- else the column that is told is the least that does not read
abbrev pub LeastIsTold : Type 0
LeastIsTold =
    (name : RowName) (fields : List (List ℕ)) (column : ℕ) → IsCounted name fields
    → (row_of fields ≡ Err (BadField column)) ↔ IsLeastBad name fields column

-- and a row is a command exactly if each of its columns reads
abbrev pub OthersAreCommands : Type 0
OthersAreCommands =
    (name : RowName) (fields : List (List ℕ)) → IsCounted name fields
    → IsOk (row_of fields) ↔ ((column : ℕ) → ¬ (IsBad name fields column))
