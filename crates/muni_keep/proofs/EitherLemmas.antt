-- Names of the second cabinet.
use Rattle.std.proofs.Common.{◌≡◌, ◌≢◌, sym, ap, ◌∙◌, refl, Bool, true, false, ℕ, List, ◌++◌, take, drop, Option, Some, None, if◌then◌else◌, nat_eq}
use Rattle.std.specs.Cmp.Lexicographic.{pointwise, same_text}
use Rattle.std.proofs.lemmas.List.{take-append-drop}
use Rattle.std.proofs.lemmas.Option.{same_Some, none-some}
use Rattle.muni_keep.specs.EitherName.{prefix, journal_name, told_by}

by_test : (begins : Bool) (name rest : List ℕ) → begins ≡ pointwise nat_eq (take 8 name) prefix → (if begins then Some (drop 8 name) else None) ≡ Some rest → name ≡ prefix ++ rest
by_test true name rest is found =
    sym (take-append-drop 8 name) ∙ (ap (λ p. p ++ drop 8 name) (same_text (take 8 name) prefix is) ∙ ap (λ r. prefix ++ r) (same_Some _ _ found))
by_test false name rest is found = absurd (none-some rest found)

-- a name of the second cabinet is `journal:` with its name there after it
name_is : (name rest : List ℕ) → journal_name name ≡ Some rest → name ≡ prefix ++ rest
name_is name rest found = by_test (pointwise nat_eq (take 8 name) prefix) name rest refl found

by_rest : {A : Type 0} (name rest other : List ℕ) (found : Option (List ℕ)) (first old new : List ℕ → A) → journal_name other ≡ found → journal_name name ≡ Some rest → other ≢ name
    → ((o : List ℕ) → o ≢ rest → new o ≡ old o) → told_by first new other found ≡ told_by first old other found
by_rest name rest other None first old new at is differs same = refl
by_rest name rest other (Some r) first old new at is differs same =
    same r (λ equal. differs (name_is other r at ∙ (ap (λ r. prefix ++ r) equal ∙ sym (name_is name rest is))))

-- what is known of all names but one stays, if it stays of all names of the second cabinet but one
pub others_told : {A : Type 0} (name rest : List ℕ) (first old new : List ℕ → A) → journal_name name ≡ Some rest
    → ((o : List ℕ) → o ≢ rest → new o ≡ old o) → (other : List ℕ) → other ≢ name → told_by first new other (journal_name other) ≡ told_by first old other (journal_name other)
others_told name rest first old new is same other differs =
    by_rest name rest other (journal_name other) first old new refl is differs same
