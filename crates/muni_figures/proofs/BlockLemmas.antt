-- Lines that are cut off a text.
use Rattle.std.proofs.Common.{◌≡◌, ◌≤◌, ◌<◌, ◌+◌, ◌-◌, ◌==◌, ◌&&◌, ◌⊎◌, ◌∙◌, ℕ, zero, suc, Bool, true, false, cond, inl, inr, List, [], ◌∷◌, ◌++◌, length, take, drop, get_or, Err, refl, sym, ap, ap₂, subst, arith}
use Rattle.std.specs.Prelude.{nat_lt, nat_le, if◌then◌else◌}
use Rattle.std.specs.List.{slice_index, onto_first}
use Rattle.std.specs.Str.Lines.{strip_carriage_return}
use Rattle.std.proofs.lemmas.Bool.Decides.{nat_tests}
use Rattle.std.proofs.lemmas.Grind.{flat_map-append}
use Rattle.std.proofs.lemmas.List.{append-nil, append_assoc, get_or-drop, get_or-take, get_or_default, length-append, length-drop, length-take, take-append-drop, take_all, take_more}
use Rattle.std.proofs.lemmas.List.Splits.{length-slice_split, slice_split_none}
use Rattle.csv.specs.Reading.{strip_bom}
use Rattle.muni_import.specs.declared.row.RowFault.TheVariants.{FieldCount}
use Rattle.muni_figures.specs.Blocks.{CutsOff, IsWhole, NoneEnds, has_mark}
use Rattle.muni_figures.specs.Rows.{is_row, parts, row_in, row_of, rows_in, rows_of, rows_of_lines}

-- ---- bytes in which no line ends
pub none-more : (bytes : List ℕ) (end : ℕ) → 0 < end → end ≤ length bytes → (slice_index bytes (end - 1) == 10) ≡ false → NoneEnds (drop end bytes) → NoneEnds (drop (end - 1) bytes)
none-more bytes end some within other none zero d inside =
    let first : end - 1 + 0 ≡ end - 1 = omega arith in
    let here : get_or (drop (end - 1) bytes) 0 d ≡ slice_index bytes (end - 1) =
    get_or-drop (end - 1) bytes 0 d ∙ ap (λ n. get_or bytes n d) first ∙ get_or_default bytes (end - 1) d 0 (omega (arith, some, within)) in
    ap (λ b. b == 10) here ∙ other
none-more bytes end some within other none (suc k) d inside =
    let next : end - 1 + suc k ≡ end + k = omega (arith, some) in
    let there : get_or (drop (end - 1) bytes) (suc k) d ≡ get_or (drop end bytes) k d =
    get_or-drop (end - 1) bytes (suc k) d ∙ ap (λ n. get_or bytes n d) next ∙ sym (get_or-drop end bytes k d) in
    ap (λ b. b == 10) there ∙ none k d (omega (arith, inside, length-drop (end - 1) bytes, length-drop end bytes, some))

none-rest : (x : ℕ) (xs : List ℕ) → NoneEnds (x ∷ xs) → NoneEnds xs
none-rest x xs none k d inside = none (suc k) d (omega (arith, inside))

none-take : (n : ℕ) (xs : List ℕ) → NoneEnds xs → NoneEnds (take n xs)
none-take n xs none k d inside =
    ap (λ b. b == 10) (get_or-take n xs k d (omega (arith, inside, length-take n xs))) ∙ none k d (omega (arith, inside, length-take n xs))

-- ---- the lines of a text with a line end in it
some-parts : (bytes : List ℕ) → 0 < length (parts 10 bytes)
some-parts bytes = omega (arith, length-slice_split (λ b. b == 10) bytes)

onto-append : (x : ℕ) (a b : List (List ℕ)) → 0 < length a → onto_first x (a ++ b) ≡ onto_first x a ++ b
onto-append x [] b some = absurd (omega (arith, some))
onto-append x (part ∷ rest) b some = refl

pub parts-joined : (front back : List ℕ) → parts 10 (front ++ 10 ∷ back) ≡ parts 10 front ++ parts 10 back
parts-joined [] back = refl
parts-joined (x ∷ front) back = by (x == 10) (parts-joined front back)
  where
    by : (test : Bool) → parts 10 (front ++ 10 ∷ back) ≡ parts 10 front ++ parts 10 back
        → cond test ([] ∷ parts 10 (front ++ 10 ∷ back)) (onto_first x (parts 10 (front ++ 10 ∷ back)))
        ≡ cond test ([] ∷ parts 10 front) (onto_first x (parts 10 front)) ++ parts 10 back
    by true rest = ap (λ l. [] ∷ l) rest
    by false rest = ap (onto_first x) rest ∙ onto-append x (parts 10 front) (parts 10 back) (some-parts front)

pub no-rows : rows_in [] ≡ []
unfolding rows_in
no-rows = refl

pub rows-joined : (front back : List ℕ) → rows_in (front ++ 10 ∷ back) ≡ rows_in front ++ rows_in back
unfolding rows_in
rows-joined front back = ap rows_of_lines (parts-joined front back) ∙ flat_map-append row_in (parts 10 front) (parts 10 back)

rows-ended : (front : List ℕ) → rows_in (front ++ 10 ∷ []) ≡ rows_in front
rows-ended front = rows-joined front [] ∙ ap (λ l. rows_in front ++ l) no-rows ∙ append-nil (rows_in front)

rows-behind : (front more : List ℕ) → rows_in ((front ++ 10 ∷ []) ++ more) ≡ rows_in (front ++ 10 ∷ []) ++ rows_in more
rows-behind front more =
    ap rows_in (append_assoc front (10 ∷ []) more) ∙ rows-joined front more ∙ ap (λ l. l ++ rows_in more) (sym (rows-ended front))

-- ---- a line that is longer than a row
glue : List ℕ → List (List ℕ) → List (List ℕ)
glue xs [] = xs ∷ []
glue xs (part ∷ rest) = (xs ++ part) ∷ rest

onto-glue : (x : ℕ) (xs : List ℕ) (l : List (List ℕ)) → onto_first x (glue xs l) ≡ glue (x ∷ xs) l
unfolding glue
onto-glue x xs [] = refl
onto-glue x xs (part ∷ rest) = refl

parts-begun : (xs more : List ℕ) → NoneEnds xs → parts 10 (xs ++ more) ≡ glue xs (parts 10 more)
unfolding glue
parts-begun [] more none = whole (parts 10 more) (some-parts more)
  where
    whole : (l : List (List ℕ)) → 0 < length l → l ≡ glue [] l
    whole [] some = absurd (omega (arith, some))
    whole (part ∷ rest) some = refl
parts-begun (x ∷ xs) more none =
    ap (λ t. cond t ([] ∷ parts 10 (xs ++ more)) (onto_first x (parts 10 (xs ++ more)))) (none 0 0 (omega arith))
    ∙ ap (onto_first x) (parts-begun xs more (none-rest x xs none)) ∙ onto-glue x xs (parts 10 more)

stripped-by : (line : List ℕ) (test : Bool) → length line ≤ length (if test then take (length line - 1) line else line) + 1
stripped-by line true = omega (arith, length-take (length line - 1) line)
stripped-by line false = omega arith

stripped : (line : List ℕ) → length line ≤ length (strip_carriage_return line) + 1
stripped line = stripped-by line (slice_index line (length line - 1) == 13)

above : (a b : ℕ) → a < b → nat_lt a b ≡ true
above a b is = grind (arith, nat_tests, is)

long-row : (line : List ℕ) → 4_096 < length line → row_in line ≡ Err FieldCount ∷ []
unfolding row_of
long-row line long =
    let row = above 0 (length (strip_carriage_return line)) (omega (arith, long, stripped line)) in
    let past = above 4_096 (length line) long in
    rw (row, past) refl

rows-long : (xs more : List ℕ) → NoneEnds xs → 4_096 < length xs → rows_in (xs ++ more) ≡ Err FieldCount ∷ rows_of_lines (drop 1 (parts 10 more))
unfolding rows_in glue
rows-long xs more none long = ap rows_of_lines (parts-begun xs more none) ∙ first (parts 10 more)
  where
    first : (l : List (List ℕ)) → rows_of_lines (glue xs l) ≡ Err FieldCount ∷ rows_of_lines (drop 1 l)
    first [] = ap (λ r. r ++ []) (long-row xs long)
    first (part ∷ rest) = ap (λ r. r ++ rows_of_lines rest) (long-row (xs ++ part) (omega (arith, long, length-append xs part)))

rows-shortened : (xs more : List ℕ) → NoneEnds xs → rows_in (xs ++ more) ≡ rows_in (take 4_097 xs ++ more)
rows-shortened xs more none = by (nat_le (length xs) 4_097) refl
  where
    by : (test : Bool) → nat_le (length xs) 4_097 ≡ test → rows_in (xs ++ more) ≡ rows_in (take 4_097 xs ++ more)
    by true is =
        let few : length xs ≤ 4_097 = grind (arith, nat_tests, is) in
        ap (λ l. rows_in (l ++ more)) (sym (take_all 4_097 xs few))
    by false is =
        let many : 4_097 < length xs = grind (arith, nat_tests, is) in
        rows-long xs more none (omega (arith, many))
        ∙ sym (rows-long (take 4_097 xs) more (none-take 4_097 xs none) (omega (arith, many, length-take 4_097 xs)))

row-few : (line : List ℕ) → length (row_in line) ≤ 1
row-few line = by (is_row line)
  where
    by : (test : Bool) → length (if test then row_of line ∷ [] else []) ≤ 1
    by true = omega arith
    by false = omega arith

pub few-begun : (xs : List ℕ) → NoneEnds xs → length (rows_in xs) ≤ 1
unfolding rows_in
few-begun xs none =
    let one : rows_of_lines (parts 10 xs) ≡ row_in xs = ap rows_of_lines (slice_split_none (λ b. b == 10) xs none) ∙ append-nil (row_in xs) in
    omega (arith, ap length one, row-few xs)

-- ---- a text that is cut after its last whole line
cut-by : (whole begun : List ℕ) → (whole ≡ []) ⊎ ((front : List ℕ) × (whole ≡ front ++ 10 ∷ [])) → NoneEnds begun
    → (more : List ℕ) → rows_in ((whole ++ begun) ++ more) ≡ rows_in whole ++ rows_in (take 4_097 begun ++ more)
cut-by whole begun (inl none_whole) none more =
    rw none_whole (rows-shortened begun more none ∙ ap (λ l. l ++ rows_in (take 4_097 begun ++ more)) (sym no-rows))
cut-by whole begun (inr ends) none more =
    ap rows_in (append_assoc whole begun more)
    ∙ ap (λ w. rows_in (w ++ (begun ++ more))) ends.1
    ∙ rows-behind ends.0 (begun ++ more)
    ∙ ap₂ (λ w l. rows_in w ++ l) (sym ends.1) (rows-shortened begun more none)

whole-by : (bytes : List ℕ) (end : ℕ) → end ≤ length bytes → (end ≡ 0) ⊎ (slice_index bytes (end - 1) ≡ 10)
    → (take end bytes ≡ []) ⊎ ((front : List ℕ) × (take end bytes ≡ front ++ 10 ∷ []))
whole-by bytes zero within ended = inl refl
whole-by bytes (suc n) within (inl none) = absurd (omega (arith, none))
whole-by bytes (suc n) within (inr last) =
    let at : n ≡ suc n - 1 = omega arith in
    let next : suc n ≡ n + 1 = omega arith in
    let byte : get_or bytes n 0 ≡ 10 = ap (λ i. get_or bytes i 0) at ∙ last in
    inr (take n bytes, ap (λ i. take i bytes) next ∙ take_more bytes n 0 (omega (arith, within)) ∙ ap (λ b. take n bytes ++ b ∷ []) byte)

pub cut-off : (bytes : List ℕ) (end : ℕ) → IsWhole bytes end → CutsOff bytes (take end bytes) (take 4_097 (drop end bytes))
cut-off bytes end is = record {
  rows = λ more. subst (λ text. rows_in (text ++ more) ≡ rows_in (take end bytes) ++ rows_in (take 4_097 (drop end bytes) ++ more)) (take-append-drop end bytes)
      (cut-by (take end bytes) (drop end bytes) (whole-by bytes end is.within is.ended) is.begun more);
  few = few-begun (take 4_097 (drop end bytes)) (none-take 4_097 (drop end bytes) is.begun);
}

-- ---- a mark of the byte order
at-least : (a b : ℕ) → a ≤ b → nat_le a b ≡ true
at-least a b is = grind (arith, nat_tests, is)

pub marked : (text : List ℕ) → strip_bom text ≡ (if has_mark text then drop 3 text else text)
unfolding strip_bom
marked [] = refl
marked (a ∷ []) = refl
marked (a ∷ b ∷ []) = refl
marked (a ∷ b ∷ c ∷ rest) =
    let long = at-least 3 (length (a ∷ b ∷ c ∷ rest)) (omega arith) in
    by (a == 0xEF) (b == 0xBB) (c == 0xBF)
    ∙ ap (λ t. if t && ((a == 0xEF) && ((b == 0xBB) && (c == 0xBF))) then rest else a ∷ b ∷ c ∷ rest) (sym long)
  where
    by : (x y z : Bool) → (if x && y && z then rest else a ∷ b ∷ c ∷ rest) ≡ (if x && (y && z) then rest else a ∷ b ∷ c ∷ rest)
    by true true z = refl
    by true false z = refl
    by false y z = refl

pub rows-opened : (came more : List ℕ) → (3 ≤ length came) ⊎ (more ≡ []) → rows_of (came ++ more) ≡ rows_in (strip_bom came ++ more)
unfolding strip_bom
rows-opened came more (inr none) = rw none (ap (λ l. rows_of l) (append-nil came) ∙ ap rows_in (sym (append-nil (strip_bom came))))
rows-opened [] more (inl enough) = absurd (omega (arith, enough))
rows-opened (a ∷ []) more (inl enough) = absurd (omega (arith, enough))
rows-opened (a ∷ b ∷ []) more (inl enough) = absurd (omega (arith, enough))
rows-opened (a ∷ b ∷ c ∷ rest) more (inl enough) = by ((a == 0xEF) && (b == 0xBB) && (c == 0xBF))
  where
    by : (test : Bool) → rows_in (if test then rest ++ more else a ∷ b ∷ c ∷ rest ++ more) ≡ rows_in ((if test then rest else a ∷ b ∷ c ∷ rest) ++ more)
    by true = refl
    by false = refl

pub length-strip_bom : (text : List ℕ) → length (strip_bom text) ≤ length text
unfolding strip_bom
length-strip_bom [] = omega arith
length-strip_bom (a ∷ []) = omega arith
length-strip_bom (a ∷ b ∷ []) = omega arith
length-strip_bom (a ∷ b ∷ c ∷ rest) = by ((a == 0xEF) && (b == 0xBB) && (c == 0xBF))
  where
    by : (test : Bool) → length (if test then rest else a ∷ b ∷ c ∷ rest) ≤ length (a ∷ b ∷ c ∷ rest)
    by true = omega arith
    by false = omega arith

-- fewer bytes than a mark has are one row at most
one-few : (line : List ℕ) → length (row_in line ++ []) ≤ 1
one-few line = omega (arith, row-few line, ap length (append-nil (row_in line)))

pub few-opened : (came : List ℕ) → length came < 3 → length (rows_of came) ≤ 1
unfolding rows_in strip_bom
few-opened [] few = omega arith
few-opened (a ∷ []) few = by (a == 10)
  where
    by : (t : Bool) → length (rows_of_lines (cond t ([] ∷ [] ∷ []) ((a ∷ []) ∷ []))) ≤ 1
    by true = omega arith
    by false = one-few (a ∷ [])
few-opened (a ∷ b ∷ []) few = by (a == 10) (b == 10)
  where
    by : (t u : Bool) → length (rows_of_lines (cond t ([] ∷ cond u ([] ∷ [] ∷ []) ((b ∷ []) ∷ [])) (onto_first a (cond u ([] ∷ [] ∷ []) ((b ∷ []) ∷ []))))) ≤ 1
    by true true = omega arith
    by true false = one-few (b ∷ [])
    by false true = one-few (a ∷ [])
    by false false = one-few (a ∷ b ∷ [])
few-opened (a ∷ b ∷ c ∷ rest) few = absurd (omega (arith, few))
