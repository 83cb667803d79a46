-- Lists that model lists, item by item.
use Rattle.std.proofs.Common.{◌≡◌, ◌≢◌, ℕ, ◌+◌, ◌<◌, ◌≤◌, List, [], ◌∷◌, ◌++◌, All, length, map, take, get_or, set, suc, refl, ap, sym, subst, ◌∙◌, arith, ⊎_elim}
use Rattle.std.specs.List.{AllZip}
use Rattle.std.proofs.lemmas.Bool.{cases_lt}
use Rattle.std.proofs.lemmas.List.{take_more, get_or-set_same, get_or-set_other, get_or_default, length-set}
use Rattle.std.proofs.lemmas.Slice.Zip.{AllZip-long}
use Rattle.std.proofs.lemmas.List.Elements.{All-head, All-tail}
use Rattle.muni_sched.specs.AnswerLaws.{HasOne}

-- if two items that model one are the same, so are two lists
pub zip-same : {X Y : Type 0} (Good : X → Type 0) (Is : X → Y → Type 0) (xs : List X) (ys zs : List Y) → ((x : X) (y z : Y) → Good x → Is x y → Is x z → y ≡ z) → All Good xs → AllZip Is xs ys → AllZip Is xs zs → ys ≡ zs
zip-same Good Is [] [] [] same all is also = refl
zip-same Good Is [] [] (z ∷ zs) same all is also = absurd also
zip-same Good Is [] (y ∷ ys) zs same all is also = absurd is
zip-same Good Is (x ∷ xs) [] zs same all is also = absurd is
zip-same Good Is (x ∷ xs) (y ∷ ys) [] same all is also = absurd also
zip-same Good Is (x ∷ xs) (y ∷ ys) (z ∷ zs) same all is also =
    let first : y ≡ z = same x y z (All-head Good x xs all) is.0 also.0 in
    let rest : ys ≡ zs = zip-same Good Is xs ys zs same (All-tail Good x xs all) is.1 also.1 in
    rw (first, rest) refl

none-only : {X Y : Type 0} (Is : X → Y → Type 0) (ys : List Y) → AllZip Is [] ys → ys ≡ []
none-only Is [] is = refl
none-only Is (y ∷ ys) is = absurd is

more-only : {X Y : Type 0} (Is : X → Y → Type 0) (x : X) (xs : List X) (ys : List Y) (first : HasOne (Is x)) (rest : HasOne (AllZip Is xs)) → AllZip Is (x ∷ xs) ys → ys ≡ first.value ∷ rest.value
more-only Is x xs [] first rest is = absurd is
more-only Is x xs (y ∷ ys) first rest is =
    let head : y ≡ first.value = first.only y is.0 in
    let tail : ys ≡ rest.value = rest.only ys is.1 in
    rw (head, tail) refl

-- if one item models each, one list models all
pub zip-has_one : {X Y : Type 0} (Good : X → Type 0) (Is : X → Y → Type 0) (xs : List X) → ((x : X) → Good x → HasOne (Is x)) → All Good xs → HasOne (AllZip Is xs)
zip-has_one Good Is [] each all = record { value = []; such = tt; only = λ ys is. none-only Is ys is }
zip-has_one Good Is (x ∷ xs) each all =
    let first : HasOne (Is x) = each x (All-head Good x xs all) in
    let rest : HasOne (AllZip Is xs) = zip-has_one Good Is xs each (All-tail Good x xs all) in
    record { value = first.value ∷ rest.value; such = (first.such, rest.such); only = λ ys is. more-only Is x xs ys first rest is }

-- one more item of two lists that agree place by place
pub zip-more : {X Y : Type 0} (R : X → Y → Type 0) (xs : List X) (ys : List Y) (x : X) (y : Y) → AllZip R xs ys → R x y → AllZip R (xs ++ x ∷ []) (ys ++ y ∷ [])
zip-more R [] [] x y all one = (one, tt)
zip-more R [] (v ∷ ys) x y all one = absurd all
zip-more R (u ∷ xs) [] x y all one = absurd all
zip-more R (u ∷ xs) (v ∷ ys) x y all one = (all.0, zip-more R xs ys x y all.1 one)

pub zip-next : {X Y : Type 0} (R : X → Y → Type 0) (xs : List X) (i : ℕ) (x : X) (ys new : List Y) (y : Y) → i < length xs → x ≡ get_or xs i x → AllZip R (take i xs) ys → R x y → new ≡ ys ++ y ∷ [] → AllZip R (take (i + 1) xs) new
zip-next R xs i x ys new y inside is all one pushed =
    let next : take (i + 1) xs ≡ take i xs ++ x ∷ [] = take_more xs i x inside ∙ ap (λ z. take i xs ++ z ∷ []) (sym is) in
    rw (next, pushed) (zip-more R (take i xs) ys x y all one)

-- what holds of the length of one holds of that of the other
pub zip-long : {X Y : Type 0} (Is : X → Y → Type 0) (xs : List X) (ys : List Y) (Long : ℕ → Type 0) → AllZip Is xs ys → Long (length ys) → Long (length xs)
zip-long Is xs ys Long all long = subst Long (AllZip-long Is xs ys all) long

-- if an item models each by its image, so does the list of the images
pub zip-map : {X Y Z : Type 0} (Is : X → Z → Type 0) (f : Y → Z) (xs : List X) (ys : List Y) → AllZip (λ x y. Is x (f y)) xs ys → AllZip Is xs (map f ys)
zip-map Is f [] [] is = tt
zip-map Is f [] (y ∷ ys) is = absurd is
zip-map Is f (x ∷ xs) [] is = absurd is
zip-map Is f (x ∷ xs) (y ∷ ys) is = (is.0, zip-map Is f xs ys is.1)

-- two lists of one length that agree place by place
pub zip-each : {X : Type 0} (R : X → X → Type 0) (xs ys : List X) → length ys ≡ length xs → ((k : ℕ) (d : X) → k < length xs → R (get_or xs k d) (get_or ys k d)) → AllZip R xs ys
zip-each R [] [] count each = tt
zip-each R [] (y ∷ ys) count each = absurd (omega (arith, count))
zip-each R (x ∷ xs) [] count each = absurd (omega (arith, count))
zip-each R (x ∷ xs) (y ∷ ys) count each = (each 0 x (omega arith), zip-each R xs ys (omega (arith, count)) (λ k d inside. each (suc k) d (omega (arith, inside))))

-- a list whose items before a place were changed one after another
pub record IsChangedTo {X : Type 0} (R : X → X → Type 0) (before now : List X) (place : ℕ) : Type 0 where
  pub long : length now ≡ length before
  pub changed : (k : ℕ) (d : X) → k < place → R (get_or before k d) (get_or now k d)
  pub rest : (k : ℕ) (d : X) → place ≤ k → get_or now k d ≡ get_or before k d

pub changed-next : {X : Type 0} (R : X → X → Type 0) (before now : List X) (place : ℕ) (d next : X) → place < length before → IsChangedTo R before now place → R (get_or now place d) next → IsChangedTo R before (set now place next) (place + 1)
changed-next {X} R before now place d next within so_far own =
    let long = so_far.long in
    let inside : place < length now = omega (arith, long, within) in
    record {
      long = length-set now place next ∙ long;
      changed = λ k e less. ⊎_elim
          (λ (earlier : k < place). let other : k ≢ place = λ same. absurd (omega (arith, same, earlier)) in
          subst (R (get_or before k e)) (sym (get_or-set_other now place k next e other)) (so_far.changed k e earlier))
          (λ (order : place ≤ k). let here : place ≡ k = omega arith in
          subst (λ (n : ℕ). R (get_or before n e) (get_or (set now place next) n e)) here
          (subst (R (get_or before place e)) (sym (get_or-set_same now place next e inside))
          (subst (λ (one : X). R one next) (so_far.rest place d (omega arith) ∙ get_or_default before place d e within) own)))
          (cases_lt k place);
      rest = λ k e order. let other : k ≢ place = λ same. absurd (omega (arith, same, order)) in
          get_or-set_other now place k next e other ∙ so_far.rest k e (omega (arith, order));
    }

pub changed-all : {X : Type 0} (R : X → X → Type 0) (before now : List X) (place : ℕ) → length before ≤ place → IsChangedTo R before now place → AllZip R before now
changed-all R before now place end all = zip-each R before now all.long (λ k d inside. all.changed k d (omega (arith, end, inside)))
