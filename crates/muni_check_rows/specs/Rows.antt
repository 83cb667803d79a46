-- What a row says by itself.
use Rattle.std.specs.Prelude.{ℕ, ◌==◌, ◌&&◌, not, Bool, if◌then◌else◌, List, ◌++◌, length, Option, Some, None, Result, Ok, Err}
use Rattle.std.specs.Char.{is_ascii_alphanumeric}
use Rattle.std.specs.List.{filter_map}
use Rattle.std.specs.Result.{result_ok}
use Rattle.csv.specs.Reading.{default_config, records, strip_bom}
use Rattle.muni_msg.specs.NameReading.{name_reading}
use Rattle.muni_import.specs.Row.{◌>>=◌}
use Rattle.muni_import.specs.declared.row.RowFault.{RowFault}
use Rattle.muni_import.specs.declared.row.RowFault.TheVariants.{FieldCount}
use Rattle.muni_msg.specs.declared.asked.Asked.{Asked}
use Rattle.muni_readings.specs.declared.stated.Stated.{Stated}
use Rattle.muni_check_rows.specs.Columns.{states_any}
use Rattle.muni_check_rows.specs.Other.{issue_columns, trade_columns}
use Rattle.muni_check_rows.specs.StatedFigures.{figure_in, has_figure, stated_in}
use Rattle.muni_check_rows.specs.Terms.{has_terms, terms_in}
use Rattle.muni_check_rows.specs.Trade.{asked_in, trade_texts_in}
use Rattle.muni_msg.specs.declared.column.Column.{Column}
use Rattle.muni_msg.specs.declared.column.Column.TheVariants as column
use Rattle.muni_check_rows.specs.declared.row.CheckRow.{CheckRow}
use Rattle.muni_check_rows.specs.declared.row.TradeRow.{TradeRow}

-- the records of a text: a mark of its byte order is no part of it
unfoldable pub records_of : List ℕ → List (List (List ℕ))
records_of text = records default_config (strip_bom text)

-- the reference that a row states, if it states one; the fields of a row are counted before any is read
abbrev pub reference_reading : List ℕ → Option (List ℕ)
reference_reading text = result_ok (name_reading is_ascii_alphanumeric 20 text)

unfoldable pub reference_in : List Column → List (List ℕ) → Result (Option (List ℕ)) RowFault
reference_in columns fields =
    if length fields == length columns
    then figure_in columns fields column.Reference reference_reading else Err FieldCount

-- ---- a row by itself
-- what it asks for, the figures that it states, and the terms if it states them
unfoldable pub row_in : List Column → List (List ℕ) → Result CheckRow RowFault
row_in columns fields = do
  asked ← asked_in columns fields (has_terms columns fields)
  stated ← stated_in columns fields
  terms ← terms_in columns fields asked.cusip
  Ok (record { asked = asked; stated = stated; terms = terms })

-- ---- a row of a trade
-- its terms by what the row states of them, the figures, and the terms of its issue if the row states them
unfoldable pub trade_row_in : List Column → List (List ℕ) → (kept : Asked) → Result TradeRow RowFault
trade_row_in columns fields kept = do
  texts ← trade_texts_in columns fields kept
  stated ← stated_in columns fields
  terms ← terms_in columns fields kept.cusip
  Ok (record { texts = texts; stated = stated; terms = terms })

-- the columns in which a row states something of a trade or of its issue
abbrev pub all_terms : List Column
all_terms = trade_columns ++ issue_columns

-- a row states no figure and nothing of the trade
abbrev pub states_nothing : List Column → List (List ℕ) → Stated → Bool
states_nothing columns fields stated = not (has_figure stated) && not (states_any columns fields all_terms)

-- the references that rows state
abbrev pub flat : Option (Option (List ℕ)) → Option (List ℕ)
flat None = None
flat (Some reference) = reference

abbrev pub named_in : List Column → List (List ℕ) → Option (List ℕ)
named_in columns fields = flat (result_ok (reference_in columns fields))

abbrev pub named_by : List Column → List (List (List ℕ)) → List (List ℕ)
named_by columns rows = filter_map (named_in columns) rows
