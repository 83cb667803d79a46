-- The terms of an issue in the columns of a row.
use Rattle.std.specs.Prelude.{ℕ, Bool, if◌then◌else◌, List, [], ◌∷◌, codes, Option, Some, None, ok_or, Result, Ok, Err}
use Rattle.muni_days.specs.declared.day.Day.{Day}
use Rattle.muni_terms.specs.Check.{pays_interest}
use Rattle.muni_terms.specs.declared.row.IssueRow.{IssueRow}
use Rattle.muni_terms.specs.declared.row.Kind.{Kind}
use Rattle.muni_msg.specs.Calls.{calls_field}
use Rattle.muni_msg.specs.Fields.{basis_field, day_in, kind_reading}
use Rattle.muni_msg.specs.IssueFields.{coupon_by}
use Rattle.muni_import.specs.Row.{◌>>=◌, is_kind, not_empty}
use Rattle.muni_import.specs.declared.row.RowFault.{RowFault}
use Rattle.muni_check_rows.specs.Columns.{fault_in, states, states_any, text_in}
use Rattle.muni_msg.specs.declared.column.Column.{Column}
use Rattle.muni_msg.specs.declared.column.Column.TheVariants as column

-- what a column of the terms reads as
abbrev pub term_in : {T : Type 0} → List Column → List (List ℕ) → Column → (List ℕ → Option T) → Result T RowFault
term_in columns fields column reading = ok_or (reading (text_in columns fields column)) (fault_in columns column)

-- a kind, with the first interest date in a column of its own
abbrev pub kind_in : List Column → List (List ℕ) → Option Kind
kind_in columns fields =
    kind_reading (text_in columns fields column.Kind) (not_empty (text_in columns fields column.First))

-- the dated date, the kind and the maturity of a kind that has a name
abbrev pub dates_in : List Column → List (List ℕ) → Result (Kind × Day × Day) RowFault
dates_in columns fields = do
  dated ← term_in columns fields column.Dated day_in
  kind ← ok_or (kind_in columns fields) (fault_in columns column.First)
  maturity ← term_in columns fields column.Maturity day_in
  Ok (kind, dated, maturity)

abbrev pub calendar_in : List Column → List (List ℕ) → Result (Kind × Day × Day) RowFault
calendar_in columns fields =
    if is_kind (text_in columns fields column.Kind) then dates_in columns fields
    else Err (fault_in columns column.Kind)

-- the terms that a row states, of an issue with this CUSIP; its name stands for none
unfoldable pub issue_in : List Column → List (List ℕ) → List ℕ → Result IssueRow RowFault
issue_in columns fields cusip = do
  calendar ← calendar_in columns fields
  coupon ← term_in columns fields column.Coupon (coupon_by (pays_interest calendar.0))
  calls ← term_in columns fields column.Calls calls_field
  basis ← term_in columns fields column.DayCount basis_field
  Ok (record { cusip = cusip; name = record { items = codes "CHECK" }; kind = calendar.0; basis = basis; dated = calendar.1; maturity = calendar.2; coupon = coupon; calls = record { items = calls } })

-- a row states terms if it states a kind
abbrev pub has_terms : List Column → List (List ℕ) → Bool
has_terms columns fields = states columns fields column.Kind

-- or else another term, which then has no kind
abbrev pub term_columns : List Column
term_columns =
    column.Dated ∷ column.First ∷ column.Maturity ∷ column.Coupon ∷ column.Calls ∷ column.DayCount ∷ []

-- the terms that a row states, if it states any
abbrev pub terms_in : List Column → List (List ℕ) → List ℕ → Result (Option IssueRow) RowFault
terms_in columns fields cusip =
    if has_terms columns fields
    then (issue_in columns fields cusip >>= λ issue. Ok (Some issue))
    else (if states_any columns fields term_columns then Err (fault_in columns column.Kind) else Ok None)
