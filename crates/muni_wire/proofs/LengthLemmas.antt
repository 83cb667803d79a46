-- Which header fields give a body a length.
use Rattle.std.proofs.Common.{◌≡◌, ◌≤◌, ◌↔◌, ◌||◌, ◌==◌, not, nat_le, ℕ, List, [], ◌∷◌, Bool, true, false, cond, codes, Option, Some, None, Result, Ok, Err, find, get_or, refl, ap, subst, arith, ◌∙◌}
use Rattle.std.specs.List.{list_any, list_all, All}
use Rattle.std.proofs.lemmas.Bool.Decides.{nat_tests}
use Rattle.std.proofs.lemmas.List.Elements.{All-head, All-tail}
use Rattle.std.proofs.lemmas.List.Folds.{list_any_at, list_any_none, Any-from_list_any, list_any-from_Any}
use Rattle.std.proofs.lemmas.List.Sums.{AllPass-from_list_all, list_all-from_AllPass}
use Rattle.muni_wire.specs.BodyLength.{FieldText, is_named, length_in, tells, may_stand_beside, body_limit, within_limit, agreed, by_first, body_length}
use Rattle.muni_wire.specs.LengthLaw.{HasLength}
use Rattle.muni_wire_body.specs.declared.fault.Bad.{Bad}
use Rattle.muni_wire_body.specs.declared.fault.Bad.TheVariants as bad

abbrev is_length : FieldText → Bool
is_length = is_named (codes "content-length")

abbrev is_coding : FieldText → Bool
is_coding = is_named (codes "transfer-encoding")

-- ---- tests of all fields

false-unless : (b : Bool) → (b ≡ true → ⊥) → b ≡ false
false-unless true isnt = absurd (isnt refl)
false-unless false isnt = refl

none-passes : (p : FieldText → Bool) (fields : List FieldText) → list_any p fields ≡ false → All (λ field. p field ≡ false) fields
none-passes p fields none k d inside = false-unless (p (get_or fields k d)) (λ e. cc (list_any_at p fields k d inside e, none))

-- a field that says the number, if it is a Content-Length
says-so : (named : Bool) (number : Option ℕ) (size : ℕ) → (not named || tells size number) ≡ true → named ≡ true → number ≡ Some size
says-so true None size e is = cc e
says-so true (Some other) size e is = let same : other ≡ size = grind (arith, nat_tests, e) in ap Some same
says-so false number size e is = cc is

stands : (named : Bool) (number : Option ℕ) (size : ℕ) → (named ≡ true → number ≡ Some size) → (not named || tells size number) ≡ true
stands true number size says = let same : (size == size) ≡ true = grind (arith, nat_tests) in ap (tells size) (says refl) ∙ same
stands false number size says = refl

each-says : (fields : List FieldText) (size : ℕ) → list_all (may_stand_beside size) fields ≡ true → All (λ field. is_length field ≡ true → length_in field.1 ≡ Some size) fields
each-says fields size all k d inside =
    says-so (is_length (get_or fields k d)) (length_in (get_or fields k d).1) size (AllPass-from_list_all (may_stand_beside size) fields all k d inside)

each-stands : (fields : List FieldText) (size : ℕ) → All (λ field. is_length field ≡ true → length_in field.1 ≡ Some size) fields → list_all (may_stand_beside size) fields ≡ true
each-stands fields size each =
    list_all-from_AllPass (may_stand_beside size) fields
    (λ k d inside. stands (is_length (get_or fields k d)) (length_in (get_or fields k d).1) size (each k d inside))

-- ---- the first of them

found-by : (v : Bool) (p : FieldText → Bool) (y x : FieldText) (ys : List FieldText) → p y ≡ v → (find p ys ≡ Some x → list_any p ys ≡ true)
    → cond v (Some y) (find p ys) ≡ Some x → (p y || list_any p ys) ≡ true
found-by true p y x ys is later e = ap (λ v. v || list_any p ys) is
found-by false p y x ys is later e = ap (λ v. v || list_any p ys) is ∙ later e

found : (p : FieldText → Bool) (fields : List FieldText) (field : FieldText) → find p fields ≡ Some field → list_any p fields ≡ true
found p [] field e = cc e
found p (y ∷ ys) field e = found-by (p y) p y field ys refl (found p ys field) e

SaysFirst : List FieldText → ℕ → Type 0
SaysFirst fields size = (field : FieldText) × (find is_length fields ≡ Some field) × (length_in field.1 ≡ Some size)

first-by : (v : Bool) (y : FieldText) (ys : List FieldText) (size : ℕ) → is_length y ≡ v → (v || list_any is_length ys) ≡ true
    → (is_length y ≡ true → length_in y.1 ≡ Some size) → (list_any is_length ys ≡ true → SaysFirst ys size) → SaysFirst (y ∷ ys) size
unfolding SaysFirst
first-by true y ys size is any here later = (y, ap (λ v. cond v (Some y) (find is_length ys)) is, here is)
first-by false y ys size is any here later =
    let r = later any in
    (r.0, ap (λ v. cond v (Some y) (find is_length ys)) is ∙ r.1, r.2)

first-says : (fields : List FieldText) (size : ℕ) → list_any is_length fields ≡ true → All (λ field. is_length field ≡ true → length_in field.1 ≡ Some size) fields → SaysFirst fields size
first-says [] size any each = cc any
first-says (y ∷ ys) size any each =
    first-by (is_length y) y ys size refl any (All-head (λ (field : FieldText). is_length field ≡ true → length_in field.1 ≡ Some size) y ys each)
    (λ some. first-says ys size some (All-tail (λ (field : FieldText). is_length field ≡ true → length_in field.1 ≡ Some size) y ys each))

-- ---- a length, from the fields

within-by : (v : Bool) (n size : ℕ) → nat_le n body_limit ≡ v → ◌≡◌ {A = Result ℕ Bad} (cond v (Ok n) (Err bad.TooLarge)) (Ok size) → (n ≡ size) × (n ≤ body_limit)
within-by true n size is e = (cc e, grind (arith, nat_tests, is))
within-by false n size is e = cc e

agreed-by : (v : Bool) (n size : ℕ) (fields : List FieldText) → list_all (may_stand_beside n) fields ≡ v → ◌≡◌ {A = Result ℕ Bad} (cond v (within_limit n) (Err bad.BadRequest)) (Ok size)
    → (list_all (may_stand_beside size) fields ≡ true) × (size ≤ body_limit)
agreed-by true n size fields is e =
    let within = within-by (nat_le n body_limit) n size refl e in
    (subst (λ m. list_all (may_stand_beside m) fields ≡ true) within.0 is, subst (λ m. m ≤ body_limit) within.0 within.1)
agreed-by false n size fields is e = cc e

agreed-on : (number : Option ℕ) (size : ℕ) (fields : List FieldText) → agreed number fields ≡ Ok size → (list_all (may_stand_beside size) fields ≡ true) × (size ≤ body_limit)
agreed-on None size fields e = cc e
agreed-on (Some n) size fields e = agreed-by (list_all (may_stand_beside n) fields) n size fields refl e

given-by : (v : Bool) (first : Option FieldText) (fields : List FieldText) (size : ℕ) → list_any is_coding fields ≡ v → find is_length fields ≡ first
    → ◌≡◌ {A = Result ℕ Bad} (cond v (Err bad.LengthRequired) (by_first first fields)) (Ok size) → HasLength fields size
given-by true first fields size plain is e = cc e
given-by false None fields size plain is e = cc e
given-by false (Some field) fields size plain is e =
    let all = agreed-on (length_in field.1) size fields e in
    record {
      plain = none-passes is_coding fields plain;
      some = Any-from_list_any is_length fields (found is_length fields field is);
      each = each-says fields size all.0;
      limit = all.1;
    }

given : (fields : List FieldText) (size : ℕ) → body_length fields ≡ Ok size → HasLength fields size
unfolding body_length
given fields size e = given-by (list_any is_coding fields) (find is_length fields) fields size refl refl e

gives : (fields : List FieldText) (size : ℕ) → HasLength fields size → body_length fields ≡ Ok size
unfolding body_length SaysFirst
gives fields size has =
    let first = first-says fields size (list_any-from_Any is_length fields has.some) has.each in
    let within : nat_le size body_limit ≡ true = grind (arith, nat_tests, has.limit) in
    ap (λ v. cond v (Err bad.LengthRequired) (by_first (find is_length fields) fields)) (list_any_none is_coding fields has.plain)
    ∙ ap (λ o. by_first o fields) first.1
    ∙ ap (λ o. agreed o fields) first.2
    ∙ ap (λ v. cond v (within_limit size) (Err bad.BadRequest)) (each-stands fields size has.each)
    ∙ ap (λ v. cond v (Ok size) (Err bad.TooLarge)) within

pub lengths-are-given : (fields : List FieldText) (size : ℕ) → (body_length fields ≡ Ok size) ↔ HasLength fields size
lengths-are-given fields size = (given fields size, gives fields size)
