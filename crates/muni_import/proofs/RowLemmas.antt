-- The rows of a text, from the first on.
use Rattle.std.proofs.Common.{◌≡◌, ◌≤◌, ◌<◌, ◌+◌, ◌⊎◌, ◌∙◌, ℕ, zero, suc, List, [], ◌∷◌, ◌++◌, drop, length, map, slice_get, Bool, true, false, cond, Option, Some, None, IfSome, option_map, refl, sym, ap, inl, inr, arith}
use Rattle.csv.specs.Machine.{Read, next_record}
use Rattle.std.proofs.lemmas.List.{append_assoc, append-nil, length-append, length-map}
use denote.Ref.{Bor}
use Rattle.csv.specs.Reading.{default_config, records_from, records_next, strip_bom, is_bom, source_of, pending_of, Ready, NextIs, ReadsNext, ReadRecord}
use Rattle.csv.specs.declared.reader.Reader.{Reader}
use Rattle.csv.specs.declared.reader.Trim.TheVariants as trim
use Rattle.csv.specs.declared.parser.State.{State}
use Rattle.csv.specs.declared.parser.State.TheVariants as st
use Rattle.muni_import.specs.Reader.{bytes_of, rows_left, IsSound}
use Rattle.muni_import.specs.Row.{Row, row_of}
use Rattle.muni_import.specs.Rows.{rows_from, rows_of, IsNext}
use Rattle.muni_import.proofs.MachineLemmas.{IsBetween, behind-any, behind-byte, behind-between, none-between}

-- turns past the bytes give no further record
same-next : (n m : ℕ) (s : State) (xs : List ℕ) (next : Option Read) → next_record default_config s [] [] xs ≡ next → IsBetween s
    → length xs < suc n → length xs < suc m
    → ((s : State) (xs : List ℕ) → IsBetween s → length xs < n → length xs < m → records_from default_config n s xs ≡ records_from default_config m s xs)
    → records_next (records_from default_config n) next ≡ records_next (records_from default_config m) next
same-next n m s xs None is between few fewer more = refl
same-next n m s xs (Some next) is between few fewer more =
    let left = behind-between s xs next between is in
    ap (λ records. next.0 ∷ records) (more next.1 next.2 left.0 (omega (arith, left.1)) (omega (arith, left.1)))

same-records : (n m : ℕ) (s : State) (xs : List ℕ) → IsBetween s → length xs < n → length xs < m → records_from default_config n s xs ≡ records_from default_config m s xs
unfolding records_from
same-records zero m s xs between few fewer = absurd (omega (arith, few))
same-records (suc n) zero s xs between few fewer = absurd (omega (arith, fewer))
same-records (suc n) (suc m) s xs between few fewer =
    same-next n m s xs (next_record default_config s [] [] xs) refl between few fewer (λ s xs. same-records n m s xs)

-- no row is left
rows-none : (s : State) (xs : List ℕ) → next_record default_config s [] [] xs ≡ None → rows_from s xs ≡ []
unfolding rows_from records_from
rows-none s xs is =
    let turns : length xs + 1 ≡ suc (length xs) = omega arith in
    rw (turns, is) refl

no-bytes : (xs : List ℕ) → length xs ≤ 0 → xs ≡ []
no-bytes [] few = refl
no-bytes (x ∷ xs) few = absurd (omega (arith, few))

-- the first row, and those after it
rows-next : (s : State) (xs : List ℕ) (next : Read) → next_record default_config s [] [] xs ≡ Some next → rows_from s xs ≡ row_of next.0 ∷ rows_from next.1 next.2
unfolding rows_from records_from
rows-next s [] next is =
    let left = behind-any s [] [] [] next is in
    let after : next_record default_config next.1 [] [] next.2 ≡ None = rw (no-bytes next.2 left.few) (none-between next.1 left.between) in
    rw is (ap (λ rows. row_of next.0 ∷ rows) (sym (rows-none next.1 next.2 after)))
rows-next s (c ∷ xs) next is =
    let left = behind-byte s [] [] c xs next is in
    let turns : length (c ∷ xs) + 1 ≡ suc (length (c ∷ xs)) = omega arith in
    rw (turns, is)
    (ap (λ records. row_of next.0 ∷ map row_of records)
    (same-records (length (c ∷ xs)) (length next.2 + 1) next.1 next.2 left.between (omega (arith, left.few)) (omega arith)))

-- a read of a record gives the next of the rows that are left
told-next : (s : State) (xs : List ℕ) (next : Option Read) (fields : List (List ℕ)) (s2 : State) (ys : List ℕ) → next_record default_config s [] [] xs ≡ next
    → NextIs next true fields s2 ys → IsNext (rows_from s xs) (Some (row_of fields)) (Some (rows_from s2 ys))
told-next s xs None fields s2 ys is told = absurd (cc told)
told-next s xs (Some next) fields s2 ys is told = rw (rows-next s xs next is, told.1, told.2, told.3) record { first = refl; rest = refl }

read-next : (s : State) (before after : Option (List ℕ)) (fields : List (List ℕ)) (s2 : State) → ReadsNext default_config s before after true fields s2
    → IfSome (option_map (rows_from s) before) (λ left. IsNext left (Some (row_of fields)) (option_map (rows_from s2) after))
read-next s None after fields s2 reads = tt
read-next s (Some xs) None fields s2 reads = absurd reads
read-next s (Some xs) (Some ys) fields s2 reads = told-next s xs (next_record default_config s [] [] xs) fields s2 ys refl reads

-- or that none is left
told-none : (s : State) (xs : List ℕ) (next : Option Read) (fields : List (List ℕ)) (s2 : State) (ys : List ℕ) → next_record default_config s [] [] xs ≡ next
    → NextIs next false fields s2 ys → IsNext (rows_from s xs) None (Some [])
told-none s xs None fields s2 ys is told = rw (rows-none s xs is) record { first = refl; rest = refl }
told-none s xs (Some next) fields s2 ys is told = absurd (cc told.0)

read-none : (s : State) (before after : Option (List ℕ)) (fields : List (List ℕ)) (s2 : State) → ReadsNext default_config s before after false fields s2
    → IfSome (option_map (rows_from s) before) (λ left. IsNext left None (Some []))
read-none s None after fields s2 reads = tt
read-none s (Some xs) None fields s2 reads = absurd reads
read-none s (Some xs) (Some ys) fields s2 reads = told-none s xs (next_record default_config s [] [] xs) fields s2 ys refl reads

-- what a reader has left, after a read that gave a record and after one that gave none
pub left-next : (reader new : Reader (Bor (List ℕ))) (fields : List (List ℕ)) → IsSound reader
    → ((reader.trim ≡ trim.None) → Ready reader → ReadRecord bytes_of reader new true fields)
    → IfSome (rows_left false reader) (λ left. IsNext left (Some (row_of fields)) (rows_left false new))
left-next reader new fields (inl failed) reads = rw failed tt
left-next reader new fields (inr (untrimmed, ready, config, flexible)) reads =
    let read = reads untrimmed ready in
    let told = rw config at read.0 in
    rw read.1 (read-next reader.state (source_of bytes_of reader) (pending_of (bytes_of new.rdr) new) fields new.state told)

pub left-none : (reader new : Reader (Bor (List ℕ))) (fields : List (List ℕ)) → IsSound reader
    → ((reader.trim ≡ trim.None) → Ready reader → ReadRecord bytes_of reader new false fields)
    → IfSome (rows_left false reader) (λ left. IsNext left None (Some []))
left-none reader new fields (inl failed) reads = rw failed tt
left-none reader new fields (inr (untrimmed, ready, config, flexible)) reads =
    let read = reads untrimmed ready in
    let told = rw config at read.0 in
    read-none reader.state (source_of bytes_of reader) (pending_of (bytes_of new.rdr) new) fields new.state told

pub still-sound : (ended : Bool) (reader : Reader (Bor (List ℕ))) → ended ≡ false → (ended ≡ true) ⊎ IsSound reader → IsSound reader
still-sound ended reader goes_on (inl ends) = absurd (cc (goes_on, ends))
still-sound ended reader goes_on (inr sound) = sound

-- there are no more records than bytes
few-next : (n : ℕ) (s : State) (xs : List ℕ) (next : Option Read) → next_record default_config s [] [] xs ≡ next → IsBetween s
    → ((s : State) (xs : List ℕ) → IsBetween s → length (records_from default_config n s xs) ≤ length xs)
    → length (records_next (records_from default_config n) next) ≤ length xs
few-next n s xs None is between more = omega arith
few-next n s xs (Some next) is between more =
    let left = behind-between s xs next between is in
    omega (arith, left.1, more next.1 next.2 left.0)

few-records : (n : ℕ) (s : State) (xs : List ℕ) → IsBetween s → length (records_from default_config n s xs) ≤ length xs
unfolding records_from
few-records zero s xs between = omega arith
few-records (suc n) s xs between = few-next n s xs (next_record default_config s [] [] xs) refl between (few-records n)

-- a mark of its byte order makes no text longer
unmarked-by : (marked : Bool) (a b c : ℕ) (text : List ℕ) → length (cond marked text (a ∷ b ∷ c ∷ text)) ≤ length (a ∷ b ∷ c ∷ text)
unmarked-by true a b c text = omega arith
unmarked-by false a b c text = omega arith

unmarked : (text : List ℕ) → length (strip_bom text) ≤ length text
unfolding strip_bom
unmarked [] = omega arith
unmarked (a ∷ []) = omega arith
unmarked (a ∷ b ∷ []) = omega arith
unmarked (a ∷ b ∷ c ∷ text) = unmarked-by (is_bom a b c) a b c text

pub few-rows : (text : List ℕ) → length (rows_of text) ≤ length text
unfolding rows_of
few-rows text =
    let bytes = strip_bom text in
    omega (arith, length-map (records_from default_config (length bytes + 1) st.StartRecord bytes) row_of, few-records (length bytes + 1) st.StartRecord bytes (inl refl), unmarked text)

-- these rows were read, and a reader has the others left
abbrev pub HasRead : List Row → Option (List Row) → List Row → Type 0
HasRead rows reader all = (left : List Row) × (reader ≡ Some left) × (rows ++ left ≡ all)

next-row : (left : List Row) (row : Row) → Some row ≡ slice_get left 0 → left ≡ row ∷ drop 1 left
next-row [] row is = absurd (cc is)
next-row (first ∷ rest) row is = ap (λ r. r ∷ rest) (cc is)

-- then one more
pub read-more : (rows : List Row) (row : Row) (old new : Option (List Row)) (all : List Row) → HasRead rows old all → IfSome old (λ left. IsNext left (Some row) new) → HasRead (rows ++ row ∷ []) new all
read-more rows row old new all (left, is, read) next =
    let then = rw is at next in
    (drop 1 left, then.rest, append_assoc rows (row ∷ []) (drop 1 left) ∙ ap (λ l. rows ++ l) (sym (next-row left row then.first)) ∙ read)

-- or all of them
no-row : (left : List Row) → None ≡ slice_get left 0 → left ≡ []
no-row [] is = refl
no-row (first ∷ rest) is = absurd (cc is)

pub read-all : (rows : List Row) (old new : Option (List Row)) (all : List Row) → HasRead rows old all → IfSome old (λ left. IsNext left None new) → rows ≡ all
read-all rows old new all (left, is, read) next =
    let then = rw is at next in
    sym (append-nil rows) ∙ ap (λ l. rows ++ l) (sym (no-row left then.first)) ∙ read

-- no more than there are
pub read-few : (rows : List Row) (reader : Option (List Row)) (all : List Row) → HasRead rows reader all → length rows ≤ length all
read-few rows reader all (left, is, read) = omega (arith, length-append rows left, ap length read)
