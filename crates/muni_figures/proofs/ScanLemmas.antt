-- The CUSIP that a row names.
use Rattle.std.proofs.Common.{◌≡◌, ◌⊎◌, ◌∙◌, ℕ, Bool, true, false, List, length, Option, Some, None, Result, Ok, Err, refl, ap}
use Rattle.std.specs.Prelude.{nat_lt, if◌then◌else◌, Contains, IsSome}
use Rattle.std.specs.Result.{result_ok}
use Rattle.muni_dec.specs.Values.{par_reading}
use Rattle.muni_msg.specs.Fields.{day_in, fee_field}
use Rattle.muni_msg.specs.IssueFields.{cusip_reading}
use Rattle.muni_msg.specs.declared.asked.Asked.{Asked}
use Rattle.muni_terms.specs.declared.row.IssueRow.{IssueRow}
use Rattle.muni_import.specs.Row.{◌>>=◌, field, given_in, in_column}
use Rattle.muni_import.specs.declared.row.RowFault.{RowFault}
use Rattle.muni_import.specs.declared.row.RowFault.TheVariants.{FieldCount}
use Rattle.muni_figures.specs.Issues.{IsNamed}
use Rattle.muni_figures.specs.Rows.{Row, asked_in, fields_in, has_count, row_by, row_of, side_field}

step : {A B : Type 0} (found : Result A RowFault) (more : A → Result B RowFault) (value : B) → (found >>= more) ≡ Ok value → (first : A) × (found ≡ Ok first) × (more first ≡ Ok value)
step (Ok first) more value is = (first, refl, is)
step (Err fault) more value is = absurd (cc is)

column-read : {T : Type 0} (column : ℕ) (reading : Option T) (value : T) → in_column column reading ≡ Ok value → reading ≡ Some value
column-read column (Some found) value is = let same : found ≡ value = cc is in ap Some same
column-read column None value is = absurd (cc is)

same-cusip : (row : Row) (one other : Asked) → row ≡ Ok one → row ≡ Ok other → one.cusip ≡ other.cusip
same-cusip row one other is also = let same : one ≡ other = cc (is, also) in ap (λ asked. asked.cusip) same

asked-named : (fields : List (List ℕ)) (asked : Asked) → asked_in fields ≡ Ok asked → cusip_reading (field 1 fields) ≡ Some asked.cusip
unfolding asked_in
asked-named fields asked is =
    let cusip = step (in_column 1 (cusip_reading (field 1 fields))) _ asked is in
    let par = step (in_column 2 (result_ok (par_reading (field 2 fields)))) _ asked cusip.2 in
    let settle = step (in_column 3 (day_in (field 3 fields))) _ asked par.2 in
    let given = step (given_in 4 fields) _ asked settle.2 in
    let fee = step (in_column 6 (fee_field (field 6 fields))) _ asked given.2 in
    let side = step (in_column 7 (side_field (field 7 fields))) _ asked fee.2 in
    column-read 1 (cusip_reading (field 1 fields)) cusip.0 cusip.1 ∙ ap Some (same-cusip _ (record { cusip = cusip.0; par = par.0; settle = settle.0; given = given.0; side = side.0; fee = fee.0 }) asked refl side.2)

counted-named : (count : Bool) (fields : List (List ℕ)) (asked : Asked) → (if count then asked_in fields else Err FieldCount) ≡ Ok asked → cusip_reading (field 1 fields) ≡ Some asked.cusip
counted-named true fields asked is = asked-named fields asked is
counted-named false fields asked is = absurd (cc is)

short-named : (long : Bool) (fields : List (List ℕ)) (asked : Asked) → (if long then Err FieldCount else row_by fields) ≡ Ok asked → cusip_reading (field 1 fields) ≡ Some asked.cusip
unfolding row_by
short-named true fields asked is = absurd (cc is)
short-named false fields asked is = counted-named (has_count (length fields)) fields asked is

row-named : (line : List ℕ) (asked : Asked) → row_of line ≡ Ok asked → cusip_reading (field 1 (fields_in line)) ≡ Some asked.cusip
unfolding row_of
row-named line asked is = short-named (nat_lt 4_096 (length line)) (fields_in line) asked is

-- a row is named if its first column is, as far as that is a CUSIP
pub first-named : (issue : List ℕ → Option IssueRow) (unknown : List (List ℕ)) (line : List ℕ) (row : Row) → row_of line ≡ row
    → ((cusip : List ℕ) → cusip_reading (field 1 (fields_in line)) ≡ Some cusip → IsSome (issue cusip) ⊎ Contains unknown cusip) → IsNamed issue unknown row
first-named issue unknown line (Err fault) is have = tt
first-named issue unknown line (Ok asked) is have = have asked.cusip (row-named line asked is)
