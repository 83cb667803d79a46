-- What a row asks for, and what it states of a trade that is kept.
use Rattle.std.specs.Prelude.{ℕ, ◌==◌, Bool, if◌then◌else◌, List, [], ◌∷◌, length, codes, decimal, Option, Some, None, ok_or, Result, Ok, Err}
use Rattle.std.specs.Result.{result_ok}
use Rattle.muni_dec.specs.Values.{fee_reading, fee_text, par_reading}
use Rattle.muni_days.specs.Day.{civil, day_text}
use Rattle.muni_msg.specs.Fields.{day_in, given_reading, side_reading}
use Rattle.muni_msg.specs.IssueFields.{cusip_reading}
use Rattle.muni_msg.specs.declared.asked.Asked.{Asked}
use Rattle.muni_msg.specs.declared.asked.Given.{Given}
use Rattle.muni_msg.specs.declared.asked.Side.TheVariants.{Buy}
use Rattle.muni_export.specs.Words.{side_word, value_text}
use Rattle.muni_import.specs.Row.{◌>>=◌, is_basis}
use Rattle.muni_import.specs.declared.row.RowFault.{RowFault}
use Rattle.muni_check_rows.specs.Basis.{basis_of, basis_reading, basis_text}
use Rattle.muni_check_rows.specs.Columns.{fault_in, text_in}
use Rattle.muni_msg.specs.declared.column.Column.{Column}
use Rattle.muni_msg.specs.declared.column.Column.TheVariants as column

-- what a text states, or what stands for it if it is empty
abbrev pub stated_or : {T : Type 0} → Option T → (List ℕ → Option T) → List ℕ → Option T
stated_or other reading text = if length text == 0 then other else reading text

-- what a column states, or what stands for it
abbrev pub needed_in : {T : Type 0} → List Column → List (List ℕ) → Column → Option T → (List ℕ → Option T) → Result T RowFault
needed_in columns fields column other reading =
    ok_or (stated_or other reading (text_in columns fields column)) (fault_in columns column)

-- ---- a row by itself
-- what is given, in the columns of the basis and of the value
abbrev pub given_by : List Column → (basis value : List ℕ) → Result Given RowFault
given_by columns basis value =
    if is_basis basis then ok_or (given_reading basis value) (fault_in columns column.Value)
    else Err (fault_in columns column.Basis)

abbrev pub given_in : List Column → List (List ℕ) → Result Given RowFault
given_in columns fields =
    given_by columns (text_in columns fields column.Basis) (text_in columns fields column.Value)

-- the CUSIP of terms that a row states without one: nothing hangs on it
abbrev pub no_cusip : List ℕ
no_cusip = codes "000000000"

abbrev pub cusip_for : (has_terms : Bool) → Option (List ℕ)
cusip_for has_terms = if has_terms then Some no_cusip else None

-- what a row asks for: a buy without a commission unless it says otherwise
unfoldable pub asked_in : List Column → List (List ℕ) → (has_terms : Bool) → Result Asked RowFault
asked_in columns fields has_terms = do
  cusip ← needed_in columns fields column.Cusip (cusip_for has_terms) cusip_reading
  side ← needed_in columns fields column.Side (Some Buy) side_reading
  par ← needed_in columns fields column.Par None (λ text. result_ok (par_reading text))
  settle ← needed_in columns fields column.Settle None day_in
  given ← given_in columns fields
  fee ← needed_in columns fields column.Fee (Some 0) (λ text. result_ok (fee_reading text))
  Ok (record { cusip = cusip; par = par; settle = settle; given = given; side = side; fee = fee })

-- ---- a row of a trade
-- The texts of the terms of a trade, as an export writes them: those that a row states, and else the kept ones.
unfoldable pub trade_texts_in : List Column → List (List ℕ) → (kept : Asked) → Result (List (List ℕ)) RowFault
trade_texts_in columns fields kept = do
  cusip ← needed_in columns fields column.Cusip (Some kept.cusip) cusip_reading
  side ← needed_in columns fields column.Side (Some kept.side) side_reading
  par ← needed_in columns fields column.Par (Some kept.par) (λ text. result_ok (par_reading text))
  settle ← needed_in columns fields column.Settle (Some kept.settle) day_in
  basis ← needed_in columns fields column.Basis (Some (basis_of kept.given)) basis_reading
  value ← needed_in columns fields column.Value (Some kept.given) (given_reading (basis_text basis))
  fee ← needed_in columns fields column.Fee (Some kept.fee) (λ text. result_ok (fee_reading text))
  Ok (cusip ∷ side_word side ∷ decimal par ∷ day_text (civil settle) ∷ basis_text basis ∷ value_text value ∷ fee_text fee ∷ [])
