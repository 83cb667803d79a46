-- Values that may be missing, taken in turn.
use Rattle.std.proofs.Common.{◌≡◌, Bool, true, false, Option, Some, None, refl, ap, ◌∙◌, Result, Ok, Err}
use Rattle.std.specs.Prelude.{if◌then◌else◌, option_map}
use Rattle.std.specs.Result.{result_ok}
use Rattle.std.proofs.lemmas.Option.{none-some, same_Some}
use Rattle.muni_desk.specs.Words.{◌>>=◌}

pub bind-some : {A B : Type 0} (f : A → Option B) (o : Option A) (y : B) → (o >>= f) ≡ Some y → (x : A) × (o ≡ Some x) × (f x ≡ Some y)
bind-some f None y is = absurd (none-some y is)
bind-some f (Some x) y is = (x, refl, is)

pub some-bind : {A B : Type 0} (f : A → Option B) (o : Option A) (x : A) (y : B) → o ≡ Some x → f x ≡ Some y → (o >>= f) ≡ Some y
some-bind f o x y is next = ap (λ o. o >>= f) is ∙ next

pub map-some : {A B : Type 0} (f : A → B) (o : Option A) (y : B) → option_map f o ≡ Some y → (x : A) × (o ≡ Some x) × (f x ≡ y)
map-some f None y is = absurd (none-some y is)
map-some f (Some x) y is = (x, refl, same_Some (f x) y is)

pub ok-some : {A E : Type 0} (r : Result A E) (x : A) → result_ok r ≡ Some x → r ≡ Ok x
ok-some (Ok y) x is = ap Ok (same_Some y x is)
ok-some (Err e) x is = absurd (none-some x is)

pub if-some : {A : Type 0} (test : Bool) (o : Option A) (y : A) → (if test then o else None) ≡ Some y → (test ≡ true) × (o ≡ Some y)
if-some true o y is = (refl, is)
if-some false o y is = absurd (none-some y is)

pub when-true : {A : Type 0} (test : Bool) (o : Option A) (y : A) → test ≡ true → o ≡ Some y → (if test then o else None) ≡ Some y
when-true test o y is next = ap (λ b. if b then o else None) is ∙ next
