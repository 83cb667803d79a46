-- What is found passes its test.
use Rattle.std.proofs.Common.{◌≡◌, Bool, true, false, List, [], ◌∷◌, Some, None, refl}
use Rattle.std.specs.Prelude.{find, if◌then◌else◌}

found-by : {A : Type 0} (p : A → Bool) (first : A) (rest : List A) (x : A) (test : Bool) → p first ≡ test → (if test then Some first else find p rest) ≡ Some x → (find p rest ≡ Some x → p x ≡ true) → p x ≡ true
found-by p first rest x true is found later = (let same : first ≡ x = (let both : Some first ≡ Some x = found in cc) in cc)
found-by p first rest x false is found later = later found

pub found-passes : {A : Type 0} (p : A → Bool) (list : List A) (x : A) → find p list ≡ Some x → p x ≡ true
found-passes p [] x found = absurd (let never : None ≡ Some x = found in cc)
found-passes p (first ∷ rest) x found = found-by p first rest x (p first) refl found (found-passes p rest x)
