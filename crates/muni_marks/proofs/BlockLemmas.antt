-- The marks of blocks of rows, one after the other.
use Rattle.std.proofs.Common.{◌≡◌, ◌<◌, ◌+◌, ℕ, List, [], ◌∷◌, ◌++◌, length, map, take, get_or, Result, Ok, Err, sym, ap, subst, ◌∙◌, Vec, Global}
use Rattle.std.specs.Prelude.{IfOk, MatchResult, Contains}
use Rattle.std.specs.List.{AllZip, flat_map}
use Rattle.std.proofs.lemmas.List.{take_more, append-nil}
use Rattle.std.proofs.lemmas.Grind.{flat_map-append}
use Rattle.rayon.proofs.ListFacts.{AllZip-append}
use Rattle.muni_edge.specs.declared.fault.NoMemory.{NoMemory}

-- if each block has its marks, all rows have theirs
pub flat_marks : {X Y Z : Type 0} (R : X → Y → Type 0) (f : Z → List Y) (blocks : List (List X)) (parts : List Z) → AllZip (λ block part. AllZip R block (f part)) blocks parts
    → AllZip R (flat_map (λ l. l) blocks) (flat_map f parts)
flat_marks R f [] [] all = tt
flat_marks R f [] (part ∷ parts) all = absurd all
flat_marks R f (block ∷ blocks) [] all = absurd all
flat_marks R f (block ∷ blocks) (part ∷ parts) all = AllZip-append R block (flat_map (λ l. l) blocks) (f part) (flat_map f parts) all.0 (flat_marks R f blocks parts all.1)

-- answers that are all Ok
pub all_ok : {X Y : Type 0} (E : Type 0) (R : X → Y → Type 0) (xs : List X) (ys : List Y) → AllZip (λ x (r : Result Y E). IfOk r (λ y. R x y)) xs (map Ok ys) → AllZip R xs ys
all_ok E R [] [] all = tt
all_ok E R [] (y ∷ ys) all = absurd all
all_ok E R (x ∷ xs) [] all = absurd all
all_ok E R (x ∷ xs) (y ∷ ys) all = (all.0, all_ok E R xs ys all.1)

-- one row more
pub row_more : {X Y : Type 0} (R : X → Y → Type 0) (rows : List X) (said : List Y) (i : ℕ) (row : X) (mark : Y) → i < length rows → row ≡ get_or rows i row
    → AllZip R (take i rows) said → R row mark → AllZip R (take (i + 1) rows) (said ++ mark ∷ [])
row_more R rows said i row mark within is so_far next =
    subst (λ l. AllZip R l (said ++ mark ∷ [])) (sym (take_more rows i row within ∙ ap (λ r. take i rows ++ r ∷ []) (sym is)))
    (AllZip-append R (take i rows) (row ∷ []) said (mark ∷ []) so_far (next, tt))

-- one block more
pub block_more : {Y Z : Type 0} (f : Z → List Y) (parts : List Z) (i : ℕ) (part : Z) → i < length parts → part ≡ get_or parts i part
    → flat_map f (take (i + 1) parts) ≡ flat_map f (take i parts) ++ f part
block_more f parts i part within is =
    ap (flat_map f) (take_more parts i part within ∙ ap (λ p. take i parts ++ p ∷ []) (sym is))
    ∙ flat_map-append f (take i parts) (part ∷ [])
    ∙ ap (λ l. flat_map f (take i parts) ++ l) (append-nil (f part))

-- what is collected of answers that are Ok
pub blocks_of : {X Y : Type 0} (R : X → Y → Type 0) (blocks : List (List X)) (answers : List (Result (Vec Y Global) NoMemory)) (all : Result (Vec (Vec Y Global) Global) NoMemory)
    → AllZip (λ block (answer : Result (Vec Y Global) NoMemory). IfOk answer (λ said. AllZip R block said.items)) blocks answers
    → MatchResult all (λ parts. (ys : List (Vec Y Global)) × (answers ≡ map Ok ys) × (parts.items ≡ ys)) (λ fault. Contains answers (Err fault))
    → IfOk all (λ parts. AllZip (λ block (part : Vec Y Global). AllZip R block part.items) blocks parts.items)
blocks_of R blocks answers (Err fault) each is = tt
blocks_of {X} {Y} R blocks answers (Ok parts) each is =
    let marked = λ (block : List X) (part : Vec Y Global). AllZip R block part.items in
    subst (AllZip marked blocks) (sym is.2) (all_ok NoMemory marked blocks is.0 (subst (λ l. AllZip (λ block (answer : Result (Vec Y Global) NoMemory). IfOk answer (λ said. AllZip R block said.items)) blocks l) is.1 each))
