-- The rows of a portfolio.
use Rattle.std.specs.Prelude.{ℕ, ◌==◌, if◌then◌else◌, List, length, map, Result, Ok, Err}
use Rattle.std.specs.Result.{result_ok}
use Rattle.csv.specs.Reading.{default_config, records, strip_bom}
use Rattle.muni_dec.specs.Values.{par_reading, yield_reading}
use Rattle.muni_msg.specs.Fields.{day_in}
use Rattle.muni_msg.specs.IssueFields.{cusip_reading}
use Rattle.muni_msg.specs.declared.asked.Asked.{Asked}
use Rattle.muni_msg.specs.declared.asked.Given.TheVariants.{AtYield}
use Rattle.muni_msg.specs.declared.asked.Side.TheVariants.{Buy}
use Rattle.muni_import.specs.Row.{◌>>=◌, field, in_column}
use Rattle.muni_import.specs.declared.row.RowFault.{RowFault}
use Rattle.muni_import.specs.declared.row.RowFault.TheVariants.{FieldCount}

-- what the four fields of a row ask for: a CUSIP, a par, a settlement and a yield
unfoldable pub asked_in : List (List ℕ) → Result Asked RowFault
asked_in fields = do
  cusip ← in_column 1 (cusip_reading (field 1 fields))
  par ← in_column 2 (result_ok (par_reading (field 2 fields)))
  settle ← in_column 3 (day_in (field 3 fields))
  yld ← in_column 4 (result_ok (yield_reading (field 4 fields)))
  Ok (record { cusip = cusip; par = par; settle = settle; given = AtYield yld; side = Buy; fee = 0 })

-- what a row asks for, whose fields are counted before any of them is read
unfoldable pub row_of : List (List ℕ) → Result Asked RowFault
row_of fields = if length fields == 4 then asked_in fields else Err FieldCount

-- the rows of a text: each of its records is one, and a mark of its byte order is no part of it
unfoldable pub rows_of : List ℕ → List (Result Asked RowFault)
rows_of text = map row_of (records default_config (strip_bom text))
