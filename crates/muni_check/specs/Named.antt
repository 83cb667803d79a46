-- The references that rows name, as they are held.
use Rattle.std.specs.Prelude.{◌≡◌, ◌||◌, ◌+◌, ⊤, ℕ, Bool, if◌then◌else◌, List, [], ◌∷◌, Option, Some, None, is_some}
use Rattle.std.specs.BTreeMap as tree
use Rattle.std.specs.BTreeMap.{BTreeMap}
use Rattle.muni_keep.specs.Trades.{by_bytes}
use Rattle.muni_msg.specs.declared.column.Column.{Column}
use Rattle.muni_check_rows.specs.Rows.{named_in}
use Rattle.muni_check.specs.Unseen.{is_named, is_same}

abbrev pub References : Type 0
References = BTreeMap (List ℕ) ℕ

-- the place of the first row that named a reference
abbrev pub place_in : References → List ℕ → Option ℕ
place_in named reference = tree.get by_bytes named reference

-- a reference is among them
abbrev pub has : References → List ℕ → Bool
has named reference = is_some (place_in named reference)

-- the references of more rows are held, if they are of a desk
abbrev pub AddsNames : (desk : Option (List ℕ)) → (old new : References) → (names : List (List ℕ)) → Type 0
AddsNames None old new names = ⊤
AddsNames (Some desk) old new names =
    (reference : List ℕ) → has new reference ≡ (is_named names reference || has old reference)

-- ---- the places of rows by their references
-- for each reference the place of the first row that named it
abbrev pub Places : Type 0
Places = List ℕ → Option ℕ

abbrev pub no_places : Places
no_places reference = None

-- the first of two places
abbrev pub first_of : Option ℕ → ℕ → ℕ
first_of None place = place
first_of (Some first) place = first

-- with one row more, which names this reference
abbrev pub came_with : Places → (place : ℕ) → (reference : List ℕ) → Places
came_with came place reference other =
    if is_same reference other then Some (first_of (came reference) place) else came other

-- with one row more, which may name a reference of a desk
abbrev pub came_after : (desk : Option (List ℕ)) → Places → (place : ℕ) → Option (List ℕ) → Places
came_after None came place name = came
came_after (Some desk) came place None = came
came_after (Some desk) came place (Some reference) = came_with came place reference

-- with rows more, whose places are counted on
abbrev pub came_after_rows : (desk : Option (List ℕ)) → List Column → Places → (place : ℕ) → List (List (List ℕ)) → Places
came_after_rows desk columns came place [] = came
came_after_rows desk columns came place (row ∷ rows) =
    came_after_rows desk columns (came_after desk came place (named_in columns row)) (place + 1) rows

-- the place of the row that came before with the reference of a row
abbrev pub again_of : Places → Option (List ℕ) → Option ℕ
again_of came None = None
again_of came (Some reference) = came reference
