-- The parts of a line, one after the other.
use Rattle.std.proofs.Common.{◌≡◌, ℕ, List, [], ◌∷◌, ◌++◌, refl, ap, ◌∙◌, append_assoc}
use Rattle.muni_dec.specs.Line.{behind_blanks, line}

blanks-append : (xs ys : List (List ℕ)) → behind_blanks xs ++ behind_blanks ys ≡ behind_blanks (xs ++ ys)
blanks-append [] ys = refl
blanks-append (x ∷ xs) ys = ap (λ l. 32 ∷ l) (append_assoc x (behind_blanks xs) (behind_blanks ys) ∙ ap (λ l. x ++ l) (blanks-append xs ys))

part_more : (a : List ℕ) (xs : List (List ℕ)) (b : List ℕ) → (a ++ behind_blanks xs) ++ behind_blanks (b ∷ []) ≡ a ++ behind_blanks (xs ++ b ∷ [])
part_more a xs b = append_assoc a (behind_blanks xs) (behind_blanks (b ∷ [])) ∙ ap (λ l. a ++ l) (blanks-append xs (b ∷ []))

pub six_parts : (a b c d e f : List ℕ) → (((((a ++ behind_blanks (b ∷ [])) ++ behind_blanks (c ∷ [])) ++ behind_blanks (d ∷ [])) ++ behind_blanks (e ∷ [])) ++ behind_blanks (f ∷ [])) ++ 10 ∷ [] ≡ line (a ∷ b ∷ c ∷ d ∷ e ∷ f ∷ [])
six_parts a b c d e f =
    let two = part_more a (b ∷ []) c in
    let three = ap (λ l. l ++ behind_blanks (d ∷ [])) two ∙ part_more a (b ∷ c ∷ []) d in
    let four = ap (λ l. l ++ behind_blanks (e ∷ [])) three ∙ part_more a (b ∷ c ∷ d ∷ []) e in
    let five = ap (λ l. l ++ behind_blanks (f ∷ [])) four ∙ part_more a (b ∷ c ∷ d ∷ e ∷ []) f in
    ap (λ l. l ++ 10 ∷ []) five
