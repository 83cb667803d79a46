-- Texts that are written one after another.
use Rattle.std.proofs.Common.{◌≡◌, ℕ, zero, suc, List, [], ◌∷◌, ◌++◌, take, Option, Some, None, refl, sym, ap, subst, ◌∙◌, append_assoc}
use Rattle.std.specs.Prelude.{IfSome}
use Rattle.std.proofs.lemmas.List.{append-nil}
use Rattle.muni_edge.specs.Sink.{HasWritten, HasWrittenPart}

-- both texts are written
pub written-then : (a b c : Option (List ℕ)) (x y : List ℕ) → HasWritten a b x → HasWritten b c y → HasWritten a c (x ++ y)
written-then None b c x y one two = tt
written-then (Some had) b c x y one two =
    subst (λ b. IfSome b (λ has. c ≡ Some (has ++ y))) one two ∙ ap Some (append_assoc had x y)

both : (x y : List ℕ) (n : ℕ) → (m : ℕ) × (x ++ take n y ≡ take m (x ++ y))
both [] y n = (n, refl)
both (b ∷ x) y n = let rest = both x y n in (suc rest.0, ap (λ l. b ∷ l) rest.1)

-- the first text is written, and a part of the second
pub part-then : (a b c : Option (List ℕ)) (x y : List ℕ) → HasWritten a b x → HasWrittenPart b c y → HasWrittenPart a c (x ++ y)
part-then None b c x y one two = tt
part-then (Some had) b c x y one two =
    let part = subst (λ b. IfSome b (λ has. (count : ℕ) × (c ≡ Some (has ++ take count y)))) one two in
    let taken = both x y part.0 in
    (taken.0, part.1 ∙ ap Some (append_assoc had x (take part.0 y) ∙ ap (λ l. had ++ l) taken.1))

cut : (n : ℕ) (x y : List ℕ) → (m : ℕ) × (take n x ≡ take m (x ++ y))
cut zero x y = (0, refl)
cut (suc n) [] y = (0, refl)
cut (suc n) (b ∷ x) y = let rest = cut n x y in (suc rest.0, ap (λ l. b ∷ l) rest.1)

-- a part of the first text is one of both
pub part-longer : (a b : Option (List ℕ)) (x y : List ℕ) → HasWrittenPart a b x → HasWrittenPart a b (x ++ y)
part-longer None b x y part = tt
part-longer (Some had) b x y part =
    let less = cut part.0 x y in
    (less.0, part.1 ∙ ap (λ l. Some (had ++ l)) less.1)

-- nothing is a part of each text
pub part-none : (a : Option (List ℕ)) (x : List ℕ) → HasWrittenPart a a x
part-none None x = tt
part-none (Some had) x = (0, ap Some (sym (append-nil had)))

-- what is written is a part of it and more
pub written-part : (a b : Option (List ℕ)) (x y : List ℕ) → HasWritten a b x → HasWrittenPart a b (x ++ y)
written-part a b x y one = part-then a b b x y one (part-none b y)

-- nothing is written
pub written-none : (a : Option (List ℕ)) → HasWritten a a []
written-none None = tt
written-none (Some had) = ap Some (sym (append-nil had))
