-- The parts of a text, and the rows of lines.
use Rattle.std.proofs.Common.{◌≡◌, ◌≤◌, ◌<◌, ◌+◌, ◌==◌, ◌∙◌, ℕ, zero, suc, Bool, true, false, cond, List, [], ◌∷◌, ◌++◌, length, take, drop, get_or, Option, Some, None, refl, sym, ap, subst, arith}
use Rattle.std.specs.Prelude.{position, nat_lt, slice_get, unwrap_or, if◌then◌else◌, IfSome}
use denote.Ref.{Bor}
use Rattle.std.specs.Option.{option_map}
use Rattle.std.specs.List.{position_or_len}
use Rattle.std.proofs.lemmas.Bool.Decides.{nat_tests}
use Rattle.std.proofs.lemmas.Option.{slice_get-map, slice_get_past, slice_get_read}
use Rattle.std.proofs.lemmas.List.{append_assoc, length-append}
use Rattle.std.proofs.lemmas.List.Sums.{fails_before_first, position_or_len_is}
use Rattle.std.proofs.lemmas.List.Splits.{slice_split_first, slice_split_none}
use Rattle.csv.specs.Records.{field_at}
use Rattle.memchr.specs.Find.{NoneBefore, Nowhere, Passes, is_byte}
use Rattle.muni_import.specs.Row.{field}
use Rattle.muni_figures.specs.Rows.{Row, is_row, parts, parts_left, row_in, row_of, rows_in, rows_of_lines}
use Rattle.muni_figures.specs.Texts.{texts_of}

found-by : (test : Bool) (n i : ℕ) → cond test (Some n) None ≡ Some i → (test ≡ true) × (n ≡ i)
found-by true n i is = (refl, cc is)
found-by false n i is = absurd (cc is)

none-by : (test : Bool) (n : ℕ) → cond test (Some n) None ≡ None → test ≡ false
none-by true n is = absurd (cc is)
none-by false n is = refl

below : (a b : ℕ) → nat_lt a b ≡ true → a < b
below a b is = grind (arith, nat_tests, is)

not-below : (a b : ℕ) → nat_lt a b ≡ false → b ≤ a
not-below a b is = grind (arith, nat_tests, is)

-- a text that is cut at the first of those bytes
pub parts-cut : (byte end : ℕ) (text : List ℕ) → position (λ b. b == byte) text ≡ Some end → parts byte text ≡ take end text ∷ parts byte (drop (end + 1) text)
parts-cut byte end text is =
    let at = position_or_len (λ b. b == byte) text in
    let found = found-by (nat_lt at (length text)) at end is in
    subst (λ n. parts byte text ≡ take n text ∷ parts byte (drop (n + 1) text)) found.1
    (slice_split_first (λ b. b == byte) text 0 (below at (length text) found.0))

-- a text with none of them
pub parts-none : (byte : ℕ) (text : List ℕ) → position (λ b. b == byte) text ≡ None → parts byte text ≡ text ∷ []
parts-none byte text is =
    let at = position_or_len (λ b. b == byte) text in
    let past = not-below at (length text) (none-by (nat_lt at (length text)) at is) in
    slice_split_none (λ b. b == byte) text (λ k d within. fails_before_first (λ b. b == byte) text k d (omega (arith, past, within)))

-- the same by a search for the byte
not-true : (test : Bool) → ¬ (test ≡ true) → test ≡ false
not-true true not = absurd (not refl)
not-true false not = refl

pub found-at : (byte end : ℕ) (text : List ℕ) → NoneBefore (Passes (is_byte byte) text) 0 (length text) end × Passes (is_byte byte) text end
    → parts byte text ≡ take end text ∷ parts byte (drop (end + 1) text)
found-at byte end text (before, here) =
    let at = position_or_len_is (λ b. b == byte) text end 0 (omega (arith, before.high)) (λ k less. not-true _ (before.before k (omega arith) less)) (λ within. here) in
    subst (λ n. parts byte text ≡ take n text ∷ parts byte (drop (n + 1) text)) at
    (slice_split_first (λ b. b == byte) text 0 (subst (λ n. n < length text) (sym at) before.high))

pub found-nowhere : (byte : ℕ) (text : List ℕ) → Nowhere (Passes (is_byte byte) text) 0 (length text) → parts byte text ≡ text ∷ []
found-nowhere byte text nowhere =
    let past = position_or_len_is (λ b. b == byte) text (length text) 0 (omega arith) (λ k less. not-true _ (nowhere k (omega arith) less)) (λ within. absurd (omega (arith, within))) in
    slice_split_none (λ b. b == byte) text (λ k d within. fails_before_first (λ b. b == byte) text k d (omega (arith, past, within)))

-- the field at a place
field-at : (fields : List (List ℕ)) (n : ℕ) → field_at fields n ≡ slice_get fields n
unfolding field_at
field-at [] n = refl
field-at (first ∷ fields) zero = refl
field-at (first ∷ fields) (suc n) = field-at fields n

pub field-first : (first : List ℕ) (more fields : List (List ℕ)) → fields ≡ first ∷ more → field 1 fields ≡ first
unfolding field_at
field-first first more fields is = ap (λ l. unwrap_or (field_at l 0) []) is

-- a field among others, and none after the last
pub field-within : (fields : List (Bor (List ℕ))) (n : ℕ) (here : Bor (List ℕ)) → n < length fields → here ≡ get_or fields n here → unwrap_or (field_at (texts_of fields) n) [] ≡ here.now
field-within fields n here within is =
    ap (λ found. unwrap_or found []) (field-at (texts_of fields) n ∙ slice_get-map (λ field. field.now) fields n
    ∙ ap (option_map (λ field. field.now)) (slice_get_read fields (length fields) n here refl within is))

pub field-past : (fields : List (Bor (List ℕ))) (n : ℕ) → length fields ≤ n → unwrap_or (field_at (texts_of fields) n) [] ≡ []
field-past fields n past =
    ap (λ found. unwrap_or found []) (field-at (texts_of fields) n ∙ slice_get-map (λ field. field.now) fields n
    ∙ ap (option_map (λ field. field.now)) (slice_get_past fields n past))

-- ---- the lines of a block one after another
-- how much is left of it, which each line makes less
abbrev pub left_size : Option (List ℕ) → ℕ
left_size None = 0
left_size (Some text) = length text + 1

-- these rows were read, and the lines that are left have the others
pub record IsRead (block : List ℕ) (left : Option (List ℕ)) (rows : List Row) : Type 0 where
  pub all : rows ++ rows_of_lines (parts_left 10 left) ≡ rows_in block
  pub room : length rows + left_size left ≤ length block + 1

pub read-none : (block : List ℕ) → IsRead block (Some block) []
unfolding rows_in
read-none block = record { all = refl; room = omega arith }

row-or-none : (line : List ℕ) (test : Bool) → is_row line ≡ test → row_in line ≡ (if test then row_of line ∷ [] else [])
row-or-none line test is = ap (λ t. if t then row_of line ∷ [] else []) is

-- one line more, which is a row or none
pub read-row : (block text line : List ℕ) (left : Option (List ℕ)) (rows : List Row) → IsRead block (Some text) rows → parts 10 text ≡ line ∷ parts_left 10 left
    → left_size left ≤ length text → is_row line ≡ true → IsRead block left (rows ++ row_of line ∷ [])
read-row block text line left rows read cut less row = record {
  all = append_assoc rows (row_of line ∷ []) (rows_of_lines (parts_left 10 left))
      ∙ ap (λ l. rows ++ (l ++ rows_of_lines (parts_left 10 left))) (sym (row-or-none line true row))
      ∙ ap (λ l. rows ++ rows_of_lines l) (sym cut) ∙ read.all;
  room = omega (arith, read.room, less, length-append rows (row_of line ∷ []));
}

-- and one that is read is among them
pub read-within : (block line : List ℕ) (left : Option (List ℕ)) (rows : List Row) → IsRead block left (rows ++ row_of line ∷ []) → length rows + 1 ≤ length (rows_in block)
read-within block line left rows read =
    omega (arith, ap length (sym read.all), length-append (rows ++ row_of line ∷ []) (rows_of_lines (parts_left 10 left)), length-append rows (row_of line ∷ []))

pub size-shorter : (left : Option (Bor (List ℕ))) (n : ℕ) → IfSome left (λ more. length more.now < n) → left_size (option_map (λ text. text.now) left) ≤ n
size-shorter None n less = omega arith
size-shorter (Some more) n less = omega (arith, less)
