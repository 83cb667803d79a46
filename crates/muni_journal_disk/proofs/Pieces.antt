-- Parts of the bytes of a disk.
use Rattle.std.proofs.Common.{◌≡◌, ℕ, ◌+◌, List, [], ◌∷◌, ◌++◌, length, refl, ◌∙◌, ap, arith, length-append}
use Rattle.std.proofs.lemmas.List.{get_or_append_left, get_or-append-add}
use Rattle.muni_journal_disk.specs.Bytes.{byte_at, bytes_at, StandsAt}

-- two parts side by side
pub front : (p : ℕ) (xs ys c : List ℕ) → StandsAt p (xs ++ ys) c → StandsAt p xs c
front p xs ys c holds = record { each = λ i below. holds.each i (omega (arith, length-append xs ys, below)) ∙ get_or_append_left xs ys 0 i below }

pub back : (p q : ℕ) (xs ys c : List ℕ) → p + length xs ≡ q → StandsAt p (xs ++ ys) c → StandsAt q ys c
back p q xs ys c next holds = record {
  each = λ i below.
      let place : q + i ≡ p + (length xs + i) = omega (arith, next) in
      ap (byte_at c) place ∙ holds.each (length xs + i) (omega (arith, length-append xs ys, below)) ∙ get_or-append-add xs ys i 0;
}

pub first_byte : (p : ℕ) (x : ℕ) (xs c : List ℕ) → StandsAt p (x ∷ xs) c → byte_at c p ≡ x
first_byte p x xs c holds = let place : p ≡ p + 0 = omega arith in ap (byte_at c) place ∙ holds.each 0 (omega arith)

-- a part read from a place is there
pub held_piece : (p : ℕ) (xs c : List ℕ) → StandsAt p xs c → bytes_at c p (length xs) ≡ xs
held_piece p [] c holds = refl
held_piece p (x ∷ xs) c holds = λ i. first_byte p x xs c holds i ∷ held_piece (p + 1) xs c (back p (p + 1) (x ∷ []) xs c refl holds) i
