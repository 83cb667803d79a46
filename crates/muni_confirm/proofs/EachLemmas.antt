-- The lines of a list, one more at a time.
use Rattle.std.proofs.Common.{◌≡◌, ◌<◌, ◌+◌, ◌++◌, ℕ, List, [], ◌∷◌, length, take, get_or, ap, sym, ◌∙◌}
use Rattle.std.specs.List.{flat_map}
use Rattle.std.proofs.lemmas.List.{take_more, append_assoc, append-nil}
use Rattle.std.proofs.lemmas.List.Concat.{flat_map-append}

pub next-line : {X : Type 0} (f : X → List ℕ) (xs : List X) (i : ℕ) (x : X) (before so_far new : List ℕ) → i < length xs → x ≡ get_or xs i x → so_far ≡ before ++ flat_map f (take i xs) → new ≡ so_far ++ f x → new ≡ before ++ flat_map f (take (i + 1) xs)
next-line f xs i x before so_far new inside is so pushed =
    let more : take (i + 1) xs ≡ take i xs ++ x ∷ [] = take_more xs i x inside ∙ ap (λ z. take i xs ++ z ∷ []) (sym is) in
    let mapped : flat_map f (take (i + 1) xs) ≡ flat_map f (take i xs) ++ f x = ap (flat_map f) more ∙ flat_map-append f (take i xs) (x ∷ []) ∙ ap (λ l. flat_map f (take i xs) ++ l) (append-nil (f x)) in
    pushed ∙ ap (λ l. l ++ f x) so ∙ append_assoc before (flat_map f (take i xs)) (f x) ∙ ap (λ l. before ++ l) (sym mapped)
