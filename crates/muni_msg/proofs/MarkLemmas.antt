-- The mark at the end of a text.
use Rattle.std.proofs.Common.{◌≡◌, ◌-◌, List, [], ◌∷◌, length, Option, Some, None, refl, sym, ap, ◌∙◌, arith}
use Rattle.std.specs.List.{last_or, slice_get}

last-from : {X : Type 0} (before : Option X) (x : X) (xs : List X) → last_or before (x ∷ xs) ≡ slice_get (x ∷ xs) (length xs)
last-from before x [] = refl
last-from before x (y ∷ xs) = last-from (Some x) y xs

pub last-got : {X : Type 0} (xs : List X) → last_or None xs ≡ slice_get xs (length xs - 1)
last-got [] = refl
last-got (x ∷ xs) = let place : length (x ∷ xs) - 1 ≡ length xs = omega arith in last-from None x xs ∙ ap (slice_get (x ∷ xs)) (sym place)
