-- The names of columns, one after another.
use Rattle.std.proofs.Common.{◌≡◌, ◌≤◌, ◌<◌, ◌+◌, ◌-◌, ◌∙◌, ℕ, zero, suc, List, [], ◌∷◌, length, drop, Some, Ok, Err, refl, sym, ap₂, arith}
use Rattle.std.specs.Prelude.{unwrap_or}
use Rattle.csv.specs.Records.{field_at}
use Rattle.muni_import.specs.declared.row.RowFault.{RowFault}
use Rattle.muni_check_rows.specs.Columns.{text_at, with_column, with_columns}
use Rattle.muni_msg.specs.Columns.{column_named}
use Rattle.muni_msg.specs.declared.column.Column.{Column}

field-next : (names : List (List ℕ)) (i : ℕ) → i < length names → drop i names ≡ unwrap_or (field_at names i) [] ∷ drop (suc i) names
unfolding field_at
field-next [] i inside = absurd (omega (arith, inside))
field-next (name ∷ names) zero inside = refl
field-next (name ∷ names) (suc i) inside = field-next names i (omega (arith, inside))

pub name-next : (names : List (List ℕ)) (i : ℕ) → i < length names → drop i names ≡ text_at names (Some i) ∷ drop (i + 1) names
name-next names i inside =
    let here : i + 1 - 1 ≡ i = omega arith in
    let next : i + 1 ≡ suc i = omega arith in
    field-next names i inside ∙ ap₂ (λ (a b : ℕ). unwrap_or (field_at names a) [] ∷ drop b names) (sym here) (sym next)

none-left : {A : Type 0} (xs : List A) (i : ℕ) → length xs ≤ i → drop i xs ≡ []
none-left [] zero end = refl
none-left [] (suc i) end = refl
none-left (x ∷ xs) zero end = absurd (omega (arith, end))
none-left (x ∷ xs) (suc i) end = none-left xs i (omega (arith, end))

pub column-added : (columns more : List Column) (names : List (List ℕ)) (i : ℕ) → i < length names → with_column columns (column_named (text_at names (Some i))) ≡ Ok more
    → with_columns columns (drop i names) ≡ with_columns more (drop (i + 1) names)
column-added columns more names i inside added = rw (name-next names i inside, added) refl

pub column-refused : (columns : List Column) (names : List (List ℕ)) (i : ℕ) (fault : RowFault) → i < length names → with_column columns (column_named (text_at names (Some i))) ≡ Err fault
    → with_columns columns (drop i names) ≡ Err fault
column-refused columns names i fault inside refused = rw (name-next names i inside, refused) refl

pub columns-all : (columns : List Column) (names : List (List ℕ)) (i : ℕ) → length names ≤ i → with_columns columns (drop i names) ≡ Ok columns
columns-all columns names i end = rw (none-left names i end) refl
