-- Rows one after another, written and read.
use Rattle.std.proofs.Common.{◌≡◌, ◌≤◌, ◌<◌, ◌+◌, ℕ, zero, suc, true, false, List, [], ◌∷◌, ◌++◌, length, map, refl, ap, inl, inr, arith}
use Rattle.std.specs.Prelude.{◌==◌, if◌then◌else◌}
use Rattle.std.specs.Char.{is_ascii_alphabetic}
use Rattle.std.specs.List.{list_any}
use Rattle.std.proofs.lemmas.Bool.{cases_Bool}
use Rattle.std.proofs.lemmas.Bool.Decides.{nat_tests}
use Rattle.std.proofs.lemmas.List.{length-append}
use Rattle.csv.specs.Machine.{next_record}
use Rattle.csv.specs.Reading.{default_config, records_from, strip_bom}
use Rattle.csv.specs.Records.{field_at}
use Rattle.csv.specs.Writing.{default_writer, end_text, escaped, field_text, fields_text, is_blank, needs_byte, read_back, row_body, row_text}
use Rattle.csv.specs.declared.parser.State.TheVariants as st
use Rattle.csv.proofs.RoundTrip.{read-write}
use Rattle.muni_import.specs.Row.{row_of}
use Rattle.muni_import.specs.Rows.{rows_of}
use Rattle.muni_export.specs.Laws.{begins_with_letter, rows_text}
use Rattle.muni_export.specs.Rows.{row}
use Rattle.muni_export.specs.Writer.{rows_setup}

-- ---- that rows may differ in length changes no byte
escaped-same : (field : List ℕ) → escaped rows_setup field ≡ escaped default_writer field
unfolding escaped
escaped-same [] = refl
escaped-same (byte ∷ bytes) = rw (escaped-same bytes) refl

field-same : (field : List ℕ) → field_text rows_setup field ≡ field_text default_writer field
field-same field = rw (escaped-same field) refl

fields-same : (fields : List (List ℕ)) → fields_text rows_setup fields ≡ fields_text default_writer fields
unfolding fields_text
fields-same [] = refl
fields-same (field ∷ fields) = rw (field-same field, fields-same fields) refl

body-same : (fields : List (List ℕ)) → row_body rows_setup fields ≡ row_body default_writer fields
body-same [] = refl
body-same (field ∷ fields) = rw (field-same field, fields-same fields) refl

blank-same : (fields : List (List ℕ)) → is_blank rows_setup fields ≡ is_blank default_writer fields
unfolding is_blank
blank-same [] = refl
blank-same (field ∷ []) = rw (field-same field) refl
blank-same (field ∷ next ∷ fields) = refl

pub row-same : (fields : List (List ℕ)) → row_text rows_setup fields ≡ row fields
unfolding row
row-same fields = rw (body-same fields, blank-same fields) refl

-- ---- records are read again
row-long : (fields : List (List ℕ)) → 1 ≤ length (row fields)
unfolding row
row-long fields =
    let marks : List ℕ = if is_blank default_writer fields then 34 ∷ 34 ∷ [] else [] in
    omega (arith, length-append (row_body default_writer fields) (marks ++ end_text default_writer.terminator), length-append marks (end_text default_writer.terminator))

rows-long : (rows : List (List (List ℕ))) → length rows ≤ length (rows_text rows)
rows-long [] = omega arith
rows-long (fields ∷ rows) = omega (arith, row-long fields, rows-long rows, length-append (row fields) (rows_text rows))

-- with a turn for each row and one more
read-records : (turns : ℕ) (rows : List (List (List ℕ))) → length rows < turns → records_from default_config turns st.StartRecord (rows_text rows) ≡ map read_back rows
unfolding records_from next_record row
read-records zero rows few = absurd (omega (arith, few))
read-records (suc turns) [] few = refl
read-records (suc turns) (fields ∷ rows) few =
    rw (read-write fields (rows_text rows)) (ap (λ records. read_back fields ∷ records) (read-records turns rows (omega (arith, few))))

-- a record of no field is read as one of an empty field, which is no command either
same-rows : (rows : List (List (List ℕ))) → map row_of (map read_back rows) ≡ map row_of rows
unfolding row_of field_at
same-rows [] = refl
same-rows ([] ∷ rows) = rw (same-rows rows) refl
same-rows ((field ∷ fields) ∷ rows) = rw (same-rows rows) refl

-- ---- no byte order mark
unmarked : (byte : ℕ) (text : List ℕ) → (byte == 239) ≡ false → strip_bom (byte ∷ text) ≡ byte ∷ text
unfolding strip_bom
unmarked byte [] other = refl
unmarked byte (b ∷ []) other = refl
unmarked byte (b ∷ c ∷ text) other = rw other refl

no-mark : (byte : ℕ) → is_ascii_alphabetic byte ≡ true → (byte == 239) ≡ false
no-mark byte letter = grind (arith, nat_tests, letter)

unmarked-rows : (rows : List (List (List ℕ))) → begins_with_letter rows ≡ true → strip_bom (rows_text rows) ≡ rows_text rows
unfolding strip_bom row
unmarked-rows [] begins = refl
unmarked-rows ([] ∷ rows) begins = absurd (cc begins)
unmarked-rows (([] ∷ fields) ∷ rows) begins = absurd (cc begins)
unmarked-rows (((byte ∷ bytes) ∷ fields) ∷ rows) begins = elim (cases_Bool (list_any (needs_byte default_writer) (byte ∷ bytes))) [
  | inl quoted ↦ rw quoted (unmarked 34 _ refl)
  | inr plain ↦ rw plain (unmarked byte _ (no-mark byte begins))
]

-- ---- the rows
pub rows-read-again : (rows : List (List (List ℕ))) → begins_with_letter rows ≡ true → rows_of (rows_text rows) ≡ map row_of rows
unfolding rows_of
rows-read-again rows begins =
    let turns : length rows < length (rows_text rows) + 1 = omega (arith, rows-long rows) in
    rw (unmarked-rows rows begins, read-records (length (rows_text rows) + 1) rows turns) (same-rows rows)
