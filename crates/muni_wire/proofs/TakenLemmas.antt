-- What pieces that are taken one after another say of all bytes.
use Rattle.std.proofs.Common.{◌≡◌, ℕ, List, Option, Some, None, ◌++◌, refl, sym, subst, ap, IfSome, ◌∙◌, []}
use Rattle.std.proofs.lemmas.List.{append-nil, append_assoc}
use Rattle.std.specs.Io.KnownBytes.{Consumes, IsAtEnd}

pub none-taken : (old : Option (List ℕ)) → Consumes old old []
none-taken None = tt
none-taken (Some all) = refl

-- two pieces
pub both-taken : (old mid new : Option (List ℕ)) (first second both : List ℕ) → Consumes old mid first → Consumes mid new second → both ≡ first ++ second → Consumes old new both
both-taken None mid new first second both p q is = tt
both-taken (Some all) None new first second both p q is = absurd p
both-taken (Some all) (Some behind) None first second both p q is = absurd q
both-taken (Some all) (Some behind) (Some rest) first second both p q is =
    rw is (p ∙ ap (λ l. first ++ l) q ∙ sym (append_assoc first second rest))

-- what holds of the bytes taken whatever follows holds of all bytes
pub told : (P : List ℕ → Type 0) (old new : Option (List ℕ)) (bytes : List ℕ) → Consumes old new bytes
    → ((more : List ℕ) → P (bytes ++ more)) → IfSome old P
told P None new bytes took fact = tt
told P (Some all) None bytes took fact = absurd took
told P (Some all) (Some rest) bytes took fact = subst P (sym took) (fact rest)

-- so does what holds of the bytes taken, if none is left
pub told-at-end : (P : List ℕ → Type 0) (old new : Option (List ℕ)) (bytes : List ℕ) → Consumes old new bytes
    → IsAtEnd new → P bytes → IfSome old P
told-at-end P None new bytes took end fact = tt
told-at-end P (Some all) None bytes took end fact = absurd took
told-at-end P (Some all) (Some rest) bytes took end fact =
    subst P (sym (took ∙ ap (λ l. bytes ++ l) end ∙ append-nil bytes)) fact
