-- Blocks that are changed one after another, or side by side.
use Rattle.std.proofs.Common.{◌≡◌, ◌<◌, ◌≤◌, ◌+◌, ◌^◌, ◌∙◌, ℕ, zero, suc, List, [], ◌∷◌, ◌++◌, length, take, drop, get_or, Result, Ok, Err, refl, sym, ap, ap₂, subst, arith}
use Rattle.std.specs.Prelude.{All, IfOk}
use Rattle.std.specs.List.{AllZip, slice_set}
use Rattle.std.proofs.lemmas.Grind.{flat_map-append}
use Rattle.std.proofs.lemmas.List.{append-nil, length-append, take-append-drop, take_more, take_more_set}
use Rattle.std.proofs.lemmas.Slice.Zip.{AllZip-long}
use Rattle.muni_edge.specs.declared.fault.NoMemory.{NoMemory}
use Rattle.muni_desk_io.specs.declared.fault.Fault.{Fault}
use Rattle.muni_desk_io.specs.declared.fault.Fault.TheVariants.{TooLarge}
use Rattle.muni_figures.specs.Shares.{AreNumbered, HasPlaces, IsCounted, IsSameBlock, NextPlace, rows_of_share, rows_of_shares}
use Rattle.muni_figures.specs.declared.scan.Scan.{Scan}
use Rattle.muni_figures.specs.declared.shares.Share.{Share}

-- a fact at each place
pub zip-by-place : {X : Type 0} (R : X → X → Type 0) (xs ys : List X) → length ys ≡ length xs → ((i : ℕ) (d : X) → i < length xs → R (get_or xs i d) (get_or ys i d)) → AllZip R xs ys
zip-by-place R [] [] len each = tt
zip-by-place R [] (y ∷ ys) len each = absurd (omega (arith, len))
zip-by-place R (x ∷ xs) [] len each = absurd (omega (arith, len))
zip-by-place R (x ∷ xs) (y ∷ ys) len each =
    (each 0 x (omega arith), zip-by-place R xs ys (omega (arith, len)) (λ i d within. each (suc i) d (omega (arith, within))))

-- ---- the places of blocks
pub same-all : (xs : List Share) → AllZip IsSameBlock xs xs
same-all [] = tt
same-all (x ∷ xs) = (refl, same-all xs)

pub same-set : (place : ℕ) (xs ys : List Share) (i : ℕ) (d : Share) → AllZip IsSameBlock xs ys → AllZip IsSameBlock xs (slice_set ys i (record (get_or ys i d) { place = place }))
same-set place [] [] zero d same = tt
same-set place [] [] (suc i) d same = tt
same-set place [] (y ∷ ys) i d same = absurd same
same-set place (x ∷ xs) [] i d same = absurd same
same-set place (x ∷ xs) (y ∷ ys) zero d same = (ap (λ (s : Share). record s { place = place }) same.0, same.1)
same-set place (x ∷ xs) (y ∷ ys) (suc i) d same = (same.0, same-set place xs ys i d same.1)

same-at : (xs ys : List Share) (i : ℕ) (d : Share) → AllZip IsSameBlock xs ys → i < length xs → IsSameBlock (get_or xs i d) (get_or ys i d)
same-at [] ys i d same within = absurd (omega (arith, within))
same-at (x ∷ xs) [] i d same within = absurd same
same-at (x ∷ xs) (y ∷ ys) zero d same within = same.0
same-at (x ∷ xs) (y ∷ ys) (suc i) d same within = same-at xs ys i d same.1 (omega (arith, within))

-- the rows of the blocks up to the next one, and how many they are
pub rows-more : (xs : List Share) (i : ℕ) (d : Share) → i < length xs → rows_of_shares (take (i + 1) xs) ≡ rows_of_shares (take i xs) ++ rows_of_share (get_or xs i d)
rows-more xs i d within =
    ap rows_of_shares (take_more xs i d within) ∙ flat_map-append rows_of_share (take i xs) (get_or xs i d ∷ [])
    ∙ ap (λ l. rows_of_shares (take i xs) ++ l) (append-nil (rows_of_share (get_or xs i d)))

rows-next : (xs : List Share) (i : ℕ) (d : Share) → i < length xs → length (rows_of_shares (take (i + 1) xs)) ≡ length (rows_of_shares (take i xs)) + length (rows_of_share (get_or xs i d))
rows-next xs i d within =
    ap length (rows-more xs i d within) ∙ length-append (rows_of_shares (take i xs)) (rows_of_share (get_or xs i d))

pub rows-split : (xs : List Share) (i : ℕ) → rows_of_shares (take i xs) ++ rows_of_shares (drop i xs) ≡ rows_of_shares xs
rows-split xs i = sym (flat_map-append rows_of_share (take i xs) (drop i xs)) ∙ ap rows_of_shares (take-append-drop i xs)

pub rows-within : (xs : List Share) (i : ℕ) → length (rows_of_shares (take i xs)) ≤ length (rows_of_shares xs)
rows-within xs i =
    omega (arith, ap length (rows-split xs i), length-append (rows_of_shares (take i xs)) (rows_of_shares (drop i xs)))

-- the place after a block, by its scan
pub counted-next : (xs ys : List Share) (i : ℕ) (d : Share) → All IsCounted xs → AllZip IsSameBlock xs ys → i < length xs
    → IfOk (get_or ys i d).scan (λ scan. length (rows_of_shares (take (i + 1) xs)) ≡ length (rows_of_shares (take i xs)) + scan.rows)
counted-next xs ys i d counted same within = by (get_or ys i d).scan (sym (ap (λ (s : Share). s.scan) (same-at xs ys i d same within)))
  where
    by : (scan : Result Scan NoMemory) → (get_or xs i d).scan ≡ scan → IfOk scan (λ scan. length (rows_of_shares (take (i + 1) xs)) ≡ length (rows_of_shares (take i xs)) + scan.rows)
    by (Err none) is = tt
    by (Ok scan) is =
        let rows : scan.rows ≡ length (rows_of_share (get_or xs i d)) = subst (λ s. IfOk s (λ scan. scan.rows ≡ length (rows_of_share (get_or xs i d)))) is (counted i d within) in
        omega (arith, rows, rows-next xs i d within)

pub place-next : (place : ℕ) (scan : Result Scan NoMemory) (result : Result ℕ Fault) (next had has : ℕ) → result ≡ Ok next → NextPlace place scan result → IfOk scan (λ scan. has ≡ had + scan.rows) → (has + place ≡ next + had) × (next < 2 ^ 64)
place-next place (Err none) result next had has is after rows = absurd (cc (after, is))
place-next place (Ok scan) result next had has is after rows =
    let now = subst (NextPlace place (Ok scan)) is after in
    (omega (arith, now.0, rows), now.1)

pub place-past : (place : ℕ) (scan : Result Scan NoMemory) (result : Result ℕ Fault) (why : Fault) (had has : ℕ) → result ≡ Err why → NextPlace place scan result → IfOk scan (λ scan. has ≡ had + scan.rows) → why ≡ TooLarge
    → 2 ^ 64 + had ≤ place + has
place-past place (Err none) result why had has is after rows large = absurd (cc (after, is, large))
place-past place (Ok scan) result why had has is after rows large =
    let now = subst (NextPlace place (Ok scan)) is after in
    omega (arith, now.1, rows)

numbered-push : (first : ℕ) (xs : List Share) (x : Share) → AreNumbered first xs → x.place ≡ first + length (rows_of_shares xs) → HasPlaces x → AreNumbered first (xs ++ x ∷ [])
numbered-push first [] x numbered at has =
    let here : x.place ≡ first = omega (arith, at) in
    (here, has, tt)
numbered-push first (y ∷ ys) x numbered at has =
    let rest : x.place ≡ first + length (rows_of_share y) + length (rows_of_shares ys) = omega (arith, at, length-append (rows_of_share y) (rows_of_shares ys)) in
    (numbered.0, numbered.1, numbered-push (first + length (rows_of_share y)) ys x numbered.2 rest has)

same-length : (xs ys : List Share) → AllZip IsSameBlock xs ys → length ys ≡ length xs
same-length xs ys same = AllZip-long IsSameBlock xs ys same

pub same-rows : (xs ys : List Share) → AllZip IsSameBlock xs ys → rows_of_shares ys ≡ rows_of_shares xs
same-rows [] [] same = refl
same-rows [] (y ∷ ys) same = absurd same
same-rows (x ∷ xs) [] same = absurd same
same-rows (x ∷ xs) (y ∷ ys) same = ap₂ (λ a b. a ++ b) (ap rows_of_share same.0) (same-rows xs ys same.1)

same-take : (n : ℕ) (xs ys : List Share) → AllZip IsSameBlock xs ys → AllZip IsSameBlock (take n xs) (take n ys)
same-take zero xs ys same = tt
same-take (suc n) [] [] same = tt
same-take (suc n) [] (y ∷ ys) same = absurd same
same-take (suc n) (x ∷ xs) [] same = absurd same
same-take (suc n) (x ∷ xs) (y ∷ ys) same = (same.0, same-take n xs ys same.1)

-- one block more has its place
pub numbered-next : (first place next : ℕ) (xs ys : List Share) (i : ℕ) (d : Share) → AllZip IsSameBlock xs ys → i < length xs → AreNumbered first (take i ys) → place ≡ first + length (rows_of_shares (take i xs))
    → next ≡ first + length (rows_of_shares (take (i + 1) xs)) → next < 2 ^ 64 → AreNumbered first (take (i + 1) (slice_set ys i (record (get_or ys i d) { place = place })))
numbered-next first place next xs ys i d same within numbered at after fits =
    let there : i < length ys = omega (arith, within, same-length xs ys same) in
    let one = record (get_or ys i d) { place = place } in
    let rows = ap rows_of_share (same-at xs ys i d same within) in
    subst (AreNumbered first) (sym (take_more_set ys i one there))
    (numbered-push first (take i ys) one numbered (at ∙ ap (λ l. first + length l) (sym (same-rows (take i xs) (take i ys) (same-take i xs ys same))))
    (omega (arith, at, after, fits, rows-next xs i d within, ap length rows)))
