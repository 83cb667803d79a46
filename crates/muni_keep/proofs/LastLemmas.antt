-- The last entries of a map.
use Rattle.std.proofs.Common.{arith, ◌≡◌, ℕ, zero, suc, ◌+◌, ◌≤◌, List, [], ◌∷◌, ◌++◌, map, reverse, take, drop, length, Option, Some, None, refl, sym, ap, subst, ◌∙◌}
use Rattle.std.specs.Prelude.{T, slice_get}
use Rattle.std.specs.List.{filter}
use Rattle.std.specs.Option.{option_map}
use Rattle.std.specs.FinMap.{FinMap, entries, is_sorted, entries_sorted}
use Rattle.std.proofs.lemmas.List.{append_assoc, reverse-append, reverse-reverse, take_all, length-reverse}
use Rattle.muni_keep.specs.Trades.{by_bytes, is_past, past}
use Rattle.muni_keep.proofs.EntriesLemmas.{past-all, past_one}

drop_one : {A : Type 0} (i : ℕ) (all : List A) (x : A) (rest : List A) → drop i all ≡ x ∷ rest → drop (i + 1) all ≡ rest
drop_one zero [] x rest is = cc is
drop_one zero (y ∷ all) x rest is = cc is
drop_one (suc i) [] x rest is = cc is
drop_one (suc i) (y ∷ all) x rest is =
    let next : suc i + 1 ≡ suc (i + 1) = omega arith in
    ap (λ n. drop n (y ∷ all)) next ∙ drop_one i all x rest is

at_drop : {A : Type 0} (i : ℕ) (all : List A) (x : A) (rest : List A) → drop i all ≡ x ∷ rest → slice_get all i ≡ Some x
at_drop zero [] x rest is = cc is
at_drop zero (y ∷ all) x rest is = cc is
at_drop (suc i) [] x rest is = cc is
at_drop (suc i) (y ∷ all) x rest is = at_drop i all x rest is

none_at : {A : Type 0} (i n : ℕ) (all : List A) → drop i all ≡ [] → i ≤ n → slice_get all n ≡ None
none_at i n [] none few = refl
none_at zero n (y ∷ all) none few = cc none
none_at (suc i) zero (y ∷ all) none few = absurd (omega (arith, few))
none_at (suc i) (suc n) (y ∷ all) none few = none_at i n all none (omega (arith, few))

-- what is left after so many from the back, and one more of them
first_back : {A : Type 0} (i : ℕ) (old new all : List A) (x : A) → reverse old ≡ drop i all → old ≡ new ++ x ∷ [] → drop i all ≡ x ∷ reverse new
first_back i old new all x is gave = sym is ∙ ap reverse gave ∙ reverse-append new (x ∷ [])

pub one_back : {A : Type 0} (i : ℕ) (old new all : List A) (x : A) → reverse old ≡ drop i all → old ≡ new ++ x ∷ [] → reverse new ≡ drop (i + 1) all
one_back i old new all x is gave = sym (drop_one i all x (reverse new) (first_back i old new all x is gave))

-- the next one stands at their number
pub found_back : {A : Type 0} (n : ℕ) (old new all : List A) (x : A) → reverse old ≡ drop n all → old ≡ new ++ x ∷ [] → slice_get all n ≡ Some x
found_back n old new all x is gave = at_drop n all x (reverse new) (first_back n old new all x is gave)

-- and if none is left, none stands there or later
pub none_back : {A : Type 0} (i n : ℕ) (old all : List A) → reverse old ≡ drop i all → old ≡ [] → i ≤ n → slice_get all n ≡ None
none_back i n old all is none few = none_at i n all (sym is ∙ ap reverse none) few

few_if : {A : Type 0} (n : ℕ) (all : List A) → slice_get all n ≡ None → length all ≤ n
few_if n [] none = omega arith
few_if zero (x ∷ all) none = cc none
few_if (suc n) (x ∷ all) none = let fewer = few_if n all none in omega (arith, fewer)

parts : {A : Type 0} (n : ℕ) (all : List A) (x : A) → slice_get all n ≡ Some x → (rest : List A) × (all ≡ take n all ++ x ∷ rest)
parts n [] x is = cc is
parts zero (y ∷ all) x is = let same : y ≡ x = cc is in (all, ap (λ z. z ∷ all) same)
parts (suc n) (y ∷ all) x is = let more = parts n all x is in (more.0, ap (λ l. y ∷ l) more.1)

few_taken : {A : Type 0} (n : ℕ) (all : List A) → length (take n all) ≤ n
few_taken zero all = omega arith
few_taken (suc n) [] = omega arith
few_taken (suc n) (x ∷ all) = let few = few_taken n all in omega (arith, few)

-- a list that has one before the last ones
turned : {A : Type 0} (all last rest : List A) (x : A) → reverse all ≡ last ++ x ∷ rest → all ≡ reverse rest ++ x ∷ reverse last
turned all last rest x is =
    sym (reverse-reverse all) ∙ ap reverse is ∙ reverse-append last (x ∷ rest)
    ∙ ap (λ l. l ++ reverse last) (reverse-append (x ∷ []) rest) ∙ append_assoc (reverse rest) (x ∷ []) (reverse last)

latest : {X : Type 0} (n : ℕ) (m : FinMap by_bytes X) (found : Option (List ℕ × X)) → slice_get (reverse (entries m)) n ≡ found
    → take n (past (option_map (λ e. e.0) found) m) ≡ reverse (take n (reverse (entries m)))
latest n m None is =
    let few = few_if n (reverse (entries m)) is in
    let all = take_all n (reverse (entries m)) few in
    ap (take n) (past-all m)
    ∙ take_all n (entries m) (subst (λ l. l ≤ n) (length-reverse (entries m)) few)
    ∙ sym (ap reverse all ∙ reverse-reverse (entries m))
latest n m (Some e) is =
    let back = reverse (entries m) in
    let cut = parts n back e is in
    let last = reverse (take n back) in
    let order = turned (entries m) (take n back) cut.0 e cut.1 in
    let few : length last ≤ n = subst (λ l. l ≤ n) (sym (length-reverse (take n back))) (few_taken n back) in
    ap (take n) (ap (filter (λ other. is_past (Some e.0) other.0)) order ∙ past_one (reverse cut.0) e last (subst (λ l. T (is_sorted by_bytes l)) order (entries_sorted m)))
    ∙ take_all n last few

-- after the reference before the last trades come these
pub latest-page : {X : Type 0} (n : ℕ) (m : FinMap by_bytes X)
    → take n (past (option_map (λ e. e.0) (slice_get (reverse (entries m)) n)) m) ≡ reverse (take n (reverse (entries m)))
latest-page n m = latest n m (slice_get (reverse (entries m)) n) refl
