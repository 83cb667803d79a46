-- The lines of a page, one after the other.
use Rattle.std.proofs.Common.{arith, ◌≡◌, ℕ, zero, suc, ◌+◌, ◌<◌, List, [], ◌∷◌, ◌++◌, map, take, refl, sym, ap, ◌∙◌}
use Rattle.std.proofs.lemmas.List.{append-nil}
use Rattle.std.proofs.Math.Seq.{append_snoc, take-nil}

-- with one line more, and one fewer to come
pub line_more : {A B : Type 0} (f : A → B) (lines all : List B) (n m : ℕ) (x : A) (old rest : List A) → old ≡ x ∷ rest → m + 1 ≡ n
    → lines ++ map f (take n old) ≡ all → (lines ++ f x ∷ []) ++ map f (take m rest) ≡ all
line_more f lines all n m x old rest next fewer so_far =
    let one : n ≡ suc m = omega arith in
    append_snoc lines (f x) (map f (take m rest)) ∙ rw (next, one) at so_far

none_taken : {A : Type 0} (n : ℕ) (rest : List A) → (0 < n → rest ≡ []) → take n rest ≡ []
none_taken zero rest none = refl
none_taken (suc n) rest none = ap (take (suc n)) (none (omega arith)) ∙ take-nil (suc n)

-- no line is left to come
pub lines_end : {A B : Type 0} (f : A → B) (lines all : List B) (n : ℕ) (rest : List A) → (0 < n → rest ≡ [])
    → lines ++ map f (take n rest) ≡ all → lines ≡ all
lines_end f lines all n rest none so_far =
    sym (append-nil lines) ∙ rw (none_taken n rest none) at so_far
