-- What a row asks for, by its fields. Columns are counted from 1.
use Rattle.std.specs.Prelude.{ℕ, ◌+◌, ◌-◌, ◌==◌, ◌||◌, Bool, if◌then◌else◌, List, [], length, codes, Option, Some, None, option_map, unwrap_or, ok_or, Result, Ok, Err}
use Rattle.std.specs.Char.{is_ascii_alphanumeric}
use Rattle.std.specs.Result.{result_ok}
use Rattle.std.specs.Str.{bytes_eq}
use Rattle.csv.specs.Records.{field_at}
use Rattle.muni_dec.specs.Values.{par_reading}
use Rattle.muni_days.specs.declared.day.Day.{Day}
use Rattle.muni_terms.specs.Check.{pays_interest}
use Rattle.muni_terms.specs.declared.row.IssueRow.{IssueRow}
use Rattle.muni_terms.specs.declared.row.Kind.{Kind}
use Rattle.muni_msg.specs.Fields.{day_in, kind_reading, basis_field, side_reading, given_reading, fee_field, version_number}
use Rattle.muni_msg.specs.IssueFields.{cusip_reading, issue_name_reading, coupon_by}
use Rattle.muni_msg.specs.Names.{is_desk_letter}
use Rattle.muni_msg.specs.NameReading.{name_reading}
use Rattle.muni_msg.specs.declared.asked.Given.{Given}
use Rattle.muni_msg.specs.declared.asked.Terms.{Terms}
use Rattle.muni_msg.specs.declared.command.Key.{Key}
use Rattle.muni_msg.specs.declared.command.Command.{Command}
use Rattle.muni_msg.specs.declared.command.Command.TheVariants.{AddIssue, Amend, Enter, Correct, Cancel}
use Rattle.muni_msg.specs.Calls.{calls_field}
use Rattle.muni_import.specs.declared.row.RowFault.{RowFault}
use Rattle.muni_import.specs.declared.row.RowFault.TheVariants.{FieldCount, BadField}
use Rattle.muni_import.specs.declared.row.RowName.{RowName}
use Rattle.muni_import.specs.declared.row.RowName.TheVariants.{Issue, Amendment, Trade, Correction, Cancellation}

infixl 10 ◌>>=◌
abbrev pub ◌>>=◌ : {A B : Type 0} → Result A RowFault → (A → Result B RowFault) → Result B RowFault
(Ok value) >>= more = more value
(Err fault) >>= more = Err fault

-- a command, or what is wrong with the row
abbrev pub Row : Type 0
Row = Result Command RowFault

-- the field of a column; after the last one each is empty
abbrev pub field : ℕ → List (List ℕ) → List ℕ
field column fields = unwrap_or (field_at fields (column - 1)) []

-- what a column reads as, or that it does not
abbrev pub in_column : {T : Type 0} → ℕ → Option T → Result T RowFault
in_column column reading = ok_or reading (BadField column)

-- which trade of which desk
abbrev pub key_in : List (List ℕ) → Result Key RowFault
key_in fields = do
  desk ← in_column 2 (result_ok (name_reading is_desk_letter 16 (field 2 fields)))
  reference ← in_column 3 (result_ok (name_reading is_ascii_alphanumeric 20 (field 3 fields)))
  Ok (record { desk = desk; reference = reference })

-- in a column the number of a version, or of the terms of an issue
abbrev pub number_in : ℕ → List (List ℕ) → Result ℕ RowFault
number_in column fields = in_column column (version_number (field column fields))

-- a text as the number of the terms of an issue, which may be left out
abbrev pub issue_number_field : List ℕ → Option (Option ℕ)
issue_number_field text =
    if length text == 0 then Some None else option_map (λ number. Some number) (version_number text)

-- in a column the number of the terms of the issue of a trade
abbrev pub issue_number_in : ℕ → List (List ℕ) → Result (Option ℕ) RowFault
issue_number_in column fields = in_column column (issue_number_field (field column fields))

-- the texts that name a basis
abbrev pub is_basis : List ℕ → Bool
is_basis text =
    bytes_eq text (codes "yield") || (bytes_eq text (codes "price") || bytes_eq text (codes "rate"))

-- a basis, and in the column after it a value
abbrev pub given_in : ℕ → List (List ℕ) → Result Given RowFault
given_in column fields =
    if is_basis (field column fields)
    then in_column (column + 1) (given_reading (field column fields) (field (column + 1) fields))
    else Err (BadField column)

-- the terms of a trade, which begin in a column
unfoldable pub terms_in : ℕ → List (List ℕ) → Result Terms RowFault
terms_in first fields = do
  cusip ← in_column first (cusip_reading (field first fields))
  side ← in_column (first + 1) (side_reading (field (first + 1) fields))
  par ← in_column (first + 2) (result_ok (par_reading (field (first + 2) fields)))
  settle ← in_column (first + 3) (day_in (field (first + 3) fields))
  given ← given_in (first + 4) fields
  fee ← in_column (first + 6) (fee_field (field (first + 6) fields))
  Ok (record { asked = record { cusip = cusip; par = par; settle = settle; given = given; side = side; fee = fee } })

-- the texts that name a kind
abbrev pub is_kind : List ℕ → Bool
is_kind text =
    bytes_eq text (codes "periodic") || (bytes_eq text (codes "zero")
    || (bytes_eq text (codes "at-redemption") || bytes_eq text (codes "discount")))

-- a text, if it is not empty
abbrev pub not_empty : List ℕ → Option (List ℕ)
not_empty text = if length text == 0 then None else Some text

-- of an issue whose terms begin in a column the kind, with the first interest date in a column of its own
abbrev pub kind_in : ℕ → List (List ℕ) → Result Kind RowFault
kind_in first fields =
    in_column (first + 3) (kind_reading (field (first + 1) fields) (not_empty (field (first + 3) fields)))

-- the dated date, the kind and the maturity
abbrev pub dates_in : ℕ → List (List ℕ) → Result (Kind × Day × Day) RowFault
dates_in first fields = do
  dated ← in_column (first + 2) (day_in (field (first + 2) fields))
  kind ← kind_in first fields
  maturity ← in_column (first + 4) (day_in (field (first + 4) fields))
  Ok (kind, dated, maturity)

-- how it pays and when
unfoldable pub calendar_in : ℕ → List (List ℕ) → Result (Kind × Day × Day) RowFault
calendar_in first fields =
    if is_kind (field (first + 1) fields) then dates_in first fields else Err (BadField (first + 1))

-- the CUSIP of an issue
abbrev pub cusip_in : List (List ℕ) → Result (List ℕ) RowFault
cusip_in fields = in_column 2 (cusip_reading (field 2 fields))

-- the issue of a CUSIP, whose terms begin in a column, with its name
unfoldable pub issue_in : ℕ → List ℕ → List (List ℕ) → Result IssueRow RowFault
issue_in first cusip fields = do
  name ← in_column first (issue_name_reading (field first fields))
  calendar ← calendar_in first fields
  coupon ← in_column (first + 5) (coupon_by (pays_interest calendar.0) (field (first + 5) fields))
  calls ← in_column (first + 6) (calls_field (field (first + 6) fields))
  basis ← in_column (first + 7) (basis_field (field (first + 7) fields))
  Ok (record { cusip = cusip; name = name; kind = calendar.0; basis = basis; dated = calendar.1; maturity = calendar.2; coupon = coupon; calls = record { items = calls } })

-- the name of a row
abbrev pub name_of : List ℕ → Option RowName
name_of text =
    if bytes_eq text (codes "issue") then Some Issue
    else (if bytes_eq text (codes "amend") then Some Amendment
    else (if bytes_eq text (codes "trade") then Some Trade
    else (if bytes_eq text (codes "correct") then Some Correction
    else (if bytes_eq text (codes "cancel") then Some Cancellation else None))))

-- how many fields such a row has; the last one of an issue and of an amendment may be left out, and the
-- last one or two of a trade and of a correction
abbrev pub has_count : RowName → ℕ → Bool
has_count Issue count = (count == 9) || (count == 10)
has_count Amendment count = (count == 10) || (count == 11)
has_count Trade count = (count == 9) || ((count == 10) || (count == 11))
has_count Correction count = (count == 10) || ((count == 11) || (count == 12))
has_count Cancellation count = count == 4

-- what such a row asks for
unfoldable pub command_in : RowName → List (List ℕ) → Row
command_in Issue fields = do
  cusip ← cusip_in fields
  issue ← issue_in 3 cusip fields
  Ok (AddIssue issue)
command_in Amendment fields = do
  cusip ← cusip_in fields
  number ← number_in 3 fields
  issue ← issue_in 4 cusip fields
  Ok (Amend number issue)
command_in Trade fields = do
  key ← key_in fields
  terms ← terms_in 4 fields
  issue_number ← issue_number_in 11 fields
  Ok (Enter key terms issue_number)
command_in Correction fields = do
  key ← key_in fields
  number ← number_in 4 fields
  terms ← terms_in 5 fields
  issue_number ← issue_number_in 12 fields
  Ok (Correct key number terms issue_number)
command_in Cancellation fields = do
  key ← key_in fields
  number ← number_in 4 fields
  Ok (Cancel key number)

-- a row of a name, whose fields are counted before any of them is read
abbrev pub row_by : Option RowName → List (List ℕ) → Row
row_by None fields = Err (BadField 1)
row_by (Some name) fields =
    if has_count name (length fields) then command_in name fields else Err FieldCount

-- what a row asks for, or what is wrong with it
unfoldable pub row_of : List (List ℕ) → Row
row_of fields = row_by (name_of (field 1 fields)) fields
