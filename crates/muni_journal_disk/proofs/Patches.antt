-- Bytes in which a range is replaced.
use Rattle.std.proofs.Common.{◌≡◌, inl, inr, ℕ, zero, suc, ◌+◌, ◌-◌, ◌<◌, ◌≤◌, false, List, [], ◌∷◌, length, refl, sym, ◌∙◌, ap, subst, arith}
use Rattle.std.proofs.lemmas.Bool.{cases_lt}
use Rattle.std.proofs.lemmas.Bool.Decides.{nat_tests}
use Rattle.muni_journal_disk.specs.Bytes.{byte_at, bytes_at}
use Rattle.muni_journal_disk.specs.Disk.{IsTorn}
use Rattle.muni_journal_disk.specs.declared.past.Piece.{Piece}
use Rattle.muni_journal_disk.specs.declared.past.Step.TheVariants.{Write}
use Rattle.muni_journal_disk.specs.declared.past.MadeCall.{MadeCall}
use Rattle.muni_journal_disk.specs.Past.{is_in, is_unsure, synced_bytes, IsImage}

pub length-bytes_at : (bytes : List ℕ) (place count : ℕ) → length (bytes_at bytes place count) ≡ count
length-bytes_at bytes place zero = refl
length-bytes_at bytes place (suc count) = ap (λ (n : ℕ). suc n) (length-bytes_at bytes (place + 1) count)

pub in_piece : (bytes : List ℕ) (place count i : ℕ) → i < count → byte_at (bytes_at bytes place count) i ≡ byte_at bytes (place + i)
in_piece bytes place zero i below = absurd (omega (arith, below))
in_piece bytes place (suc count) zero below = let e : place ≡ place + zero = omega arith in ap (byte_at bytes) e
in_piece bytes place (suc count) (suc i) below = let e : place + 1 + i ≡ place + suc i = omega arith in in_piece bytes (place + 1) count i (omega (arith, below)) ∙ ap (byte_at bytes) e

abbrev patch : ℕ → List ℕ → List ℕ → List ℕ
patch zero [] c = c
patch zero (x ∷ xs) [] = x ∷ patch zero xs []
patch zero (x ∷ xs) (b ∷ c) = x ∷ patch zero xs c
patch (suc p) xs [] = 0 ∷ patch p xs []
patch (suc p) xs (b ∷ c) = b ∷ patch p xs c

patch_in : (p : ℕ) (xs c : List ℕ) (i j : ℕ) → j ≡ p + i → i < length xs → byte_at (patch p xs c) j ≡ byte_at xs i
patch_in zero [] c i j e below = absurd (omega (arith, below))
patch_in zero (x ∷ xs) [] zero zero e below = refl
patch_in zero (x ∷ xs) [] zero (suc j) e below = absurd (omega (arith, e))
patch_in zero (x ∷ xs) [] (suc i) zero e below = absurd (omega (arith, e))
patch_in zero (x ∷ xs) [] (suc i) (suc j) e below = patch_in zero xs [] i j (omega (arith, e)) (omega (arith, below))
patch_in zero (x ∷ xs) (b ∷ c) zero zero e below = refl
patch_in zero (x ∷ xs) (b ∷ c) zero (suc j) e below = absurd (omega (arith, e))
patch_in zero (x ∷ xs) (b ∷ c) (suc i) zero e below = absurd (omega (arith, e))
patch_in zero (x ∷ xs) (b ∷ c) (suc i) (suc j) e below = patch_in zero xs c i j (omega (arith, e)) (omega (arith, below))
patch_in (suc p) xs [] i zero e below = absurd (omega (arith, e))
patch_in (suc p) xs [] i (suc j) e below = patch_in p xs [] i j (omega (arith, e)) below
patch_in (suc p) xs (b ∷ c) i zero e below = absurd (omega (arith, e))
patch_in (suc p) xs (b ∷ c) i (suc j) e below = patch_in p xs c i j (omega (arith, e)) below

patch_before : (p : ℕ) (xs c : List ℕ) (j : ℕ) → j < p → byte_at (patch p xs c) j ≡ byte_at c j
patch_before zero xs c j below = absurd (omega (arith, below))
patch_before (suc p) xs [] zero below = refl
patch_before (suc p) xs [] (suc j) below = patch_before p xs [] j (omega (arith, below))
patch_before (suc p) xs (b ∷ c) zero below = refl
patch_before (suc p) xs (b ∷ c) (suc j) below = patch_before p xs c j (omega (arith, below))

patch_after : (p : ℕ) (xs c : List ℕ) (j : ℕ) → p + length xs ≤ j → byte_at (patch p xs c) j ≡ byte_at c j
patch_after zero [] c j past = refl
patch_after zero (x ∷ xs) c zero past = absurd (omega (arith, past))
patch_after zero (x ∷ xs) [] (suc j) past = patch_after zero xs [] j (omega (arith, past))
patch_after zero (x ∷ xs) (b ∷ c) (suc j) past = patch_after zero xs c j (omega (arith, past))
patch_after (suc p) xs c zero past = absurd (omega (arith, past))
patch_after (suc p) xs [] (suc j) past = patch_after p xs [] j (omega (arith, past))
patch_after (suc p) xs (b ∷ c) (suc j) past = patch_after p xs c j (omega (arith, past))

-- an image after a write differs from an earlier one in the range at most
pub torn : (first : List ℕ) (past later : List MadeCall) (before : _) (piece : Piece) (place count : ℕ) → piece.place ≡ place → length piece.bytes.items ≡ count
    → later ≡ record { before = before; step = Write piece } ∷ past → IsTorn place count (IsImage first past) (IsImage first later)
torn first past later before piece place count at size is c now =
    let base = synced_bytes first past in
    let fill = bytes_at base place count in
    let long = length-bytes_at base place count in
    let d = patch place fill c in
    let new : IsImage first (record { before = before; step = Write piece } ∷ past) c = subst (λ (l : List MadeCall). IsImage first l c) is now in
    let outside : (i : ℕ) → is_in piece i ≡ false → is_unsure past i ≡ false → byte_at c i ≡ byte_at base i = λ i out sure. new.each i (rw (out, sure) refl) in (
      d,
      record {
        each = λ i sure. elim (cases_lt i place) [
          | inl below ↦ patch_before place fill c i below ∙ outside i (out_before i below) sure
          | inr from ↦ elim (cases_lt i (place + count)) [
            | inl within ↦
                let e : i ≡ place + (i - place) = omega (arith, from) in
                patch_in place fill c (i - place) i e (omega (arith, long, within, from)) ∙ in_piece base place count (i - place) (omega (arith, within, from)) ∙ ap (byte_at base) (sym e)
            | inr past_it ↦ patch_after place fill c i (omega (arith, long, past_it)) ∙ outside i (out_after i past_it) sure
          ]
        ];
      },
      record {
        before = λ i below. sym (patch_before place fill c i below);
        after = λ i past_it. sym (patch_after place fill c i (omega (arith, long, past_it)));
      },
    )
  where
    out_before : (i : ℕ) → i < place → is_in piece i ≡ false
    out_before i below = grind (arith, nat_tests, at, below)

    out_after : (i : ℕ) → place + count ≤ i → is_in piece i ≡ false
    out_after i past_it = grind (arith, nat_tests, at, size, past_it)
