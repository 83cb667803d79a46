-- What a seek leaves to a scan.
use Rattle.std.proofs.Common.{◌≡◌, Bool, true, false, not, List, [], ◌∷◌, ◌++◌, reverse, filter, refl, sym, ap, ◌∙◌, subst, Less, Equal, Greater, Ordering, is_lt, is_gt, is_eq, true≢false, cond, Some, None, slice_get, if◌then◌else◌}
use Rattle.std.specs.Option.{unwrap_or}
use Rattle.sqlite_trees.specs.View.{View, Advances}
use Rattle.std.specs.List.{AllByRecursion}
use Rattle.std.proofs.lemmas.List.{reverse-append}
use Rattle.std.proofs.lemmas.List.Elements.{filter-append}
use Rattle.sqlite_value.specs.Order.{Row}
use Rattle.std.specs.Ordering.{ordering_then}
use Rattle.sqlite_value.specs.declared.keys.Order.{Order}
use Rattle.sqlite_value.specs.Keys.{plain, first_key, later, by_key, prefix_cmp}
use Rattle.sqlite_trees.specs.Tree.{IsIndex, sought}
use Rattle.sqlite_trees.specs.declared.store.Direction.{Direction}
use Rattle.sqlite_trees.specs.declared.store.Direction.TheVariants.{Forward, Backward}
use Rattle.sqlite_trees.proofs.ListLemmas.{all_weaker, filter-filter, filter_none, ascending-filter}
use Rattle.sqlite_trees.proofs.TreeLemmas.{AtMost, IsSortedTree, sorted_index, prefix_cmp_follows, from_key-filter, up_to_key-filter}
use Rattle.muni_store_trees.specs.Entries.{begins_with, matching, from, in_direction, EndsOnce, IsSought, Scans, Gives}

abbrev below : Row → Row → Bool
below key entry = is_lt (prefix_cmp plain entry key)

abbrev above : Row → Row → Bool
above key entry = is_gt (prefix_cmp plain entry key)

-- what is not below and does not begin with a key is above it
above_it : (o : Ordering) → is_lt o ≡ false → is_eq o ≡ false → is_gt o ≡ true
above_it Less low other = absurd (true≢false low)
above_it Equal low other = absurd (true≢false other)
above_it Greater low other = refl

below_it : (o : Ordering) → is_gt o ≡ false → is_eq o ≡ false → is_lt o ≡ true
below_it Less high other = refl
below_it Equal high other = absurd (true≢false other)
below_it Greater high other = absurd (true≢false high)

no_match_above : (o : Ordering) → is_gt o ≡ true → is_eq o ≡ false
no_match_above Less is = refl
no_match_above Equal is = absurd (true≢false (sym is))
no_match_above Greater is = refl

no_match_below : (o : Ordering) → is_lt o ≡ true → is_eq o ≡ false
no_match_below Less is = refl
no_match_below Equal is = absurd (true≢false (sym is))
no_match_below Greater is = refl

match_not_below : (o : Ordering) → is_eq o ≡ true → not (is_lt o) ≡ true
match_not_below Less is = absurd (true≢false (sym is))
match_not_below Equal is = refl
match_not_below Greater is = refl

match_not_above : (o : Ordering) → is_eq o ≡ true → not (is_gt o) ≡ true
match_not_above Less is = refl
match_not_above Equal is = refl
match_not_above Greater is = absurd (true≢false (sym is))

not-false : (b : Bool) → not b ≡ true → b ≡ false
not-false true is = absurd (true≢false (sym is))
not-false false is = refl

filtered : {A : Type 0} (p : A → Bool) (xs : List A) → AllByRecursion (λ x. p x ≡ true) (filter p xs)
filtered p [] = tt
filtered {A} p (x ∷ xs) = go (p x) refl (filtered p xs)
  where
    go : (b : Bool) → p x ≡ b → AllByRecursion (λ y. p y ≡ true) (filter p xs) → AllByRecursion (λ y. p y ≡ true) (cond b (x ∷ filter p xs) (filter p xs))
    go true is more = (is, more)
    go false is more = more

reverse-cons : (x : Row) (xs : List Row) → reverse (x ∷ xs) ≡ reverse xs ++ x ∷ []
reverse-cons x xs = reverse-append (x ∷ []) xs

module _ (key : Row) where
  abbrev Stops : Row → Row → Type 0
  Stops a b = begins_with key a ≡ false → begins_with key b ≡ false

  ends-up : (es : List Row) → IsSortedTree plain es → AllByRecursion (λ e. not (below key e) ≡ true) es → EndsOnce key es
  ends-up [] up all = tt
  ends-up (e ∷ es) up all = (
    all_weaker (AtMost plain e) (Stops e)
        (λ b most other. no_match_above _ ((prefix_cmp_follows plain key e b most).1 (above_it _ (not-false _ all.0) other))) es up.0,
    ends-up es up.1 all.1,
  )

  -- the same of a list that falls, and what follows it
  all-append : (P : Row → Type 0) (xs ys : List Row) → AllByRecursion P xs → AllByRecursion P ys → AllByRecursion P (xs ++ ys)
  all-append P [] ys here there = there
  all-append P (x ∷ xs) ys here there = (here.0, all-append P xs ys here.1 there)

  all-reverse : (P : Row → Type 0) (xs : List Row) → AllByRecursion P xs → AllByRecursion P (reverse xs)
  all-reverse P [] all = tt
  all-reverse P (x ∷ xs) all = subst (AllByRecursion P) (sym (reverse-cons x xs)) (all-append P (reverse xs) (x ∷ []) (all-reverse P xs all.1) (all.0, tt))

  ascending-snoc : (xs : List Row) (y : Row) → EndsOnce key xs → AllByRecursion (λ x. Stops x y) xs → EndsOnce key (xs ++ y ∷ [])
  ascending-snoc [] y up all = (tt, tt)
  ascending-snoc (x ∷ xs) y up all = (all-append (Stops x) xs (y ∷ []) up.0 (all.0, tt), ascending-snoc xs y up.1 all.1)

  ends-down : (es : List Row) → IsSortedTree plain es → AllByRecursion (λ e. not (above key e) ≡ true) es → EndsOnce key (reverse es)
  ends-down [] up all = tt
  ends-down (e ∷ es) up all =
      subst (EndsOnce key) (sym (reverse-cons e es)) (ascending-snoc (reverse es) e (ends-down es up.1 all.1)
      (all-reverse (λ x. Stops x e) es (both es up.0 all.1)))
    where
      both : (xs : List Row) → AllByRecursion (AtMost plain e) xs → AllByRecursion (λ x. not (above key x) ≡ true) xs → AllByRecursion (λ x. Stops x e) xs
      both [] most not_above = tt
      both (x ∷ xs) most not_above =
          ((λ other. no_match_below _ ((prefix_cmp_follows plain key e x most.0).0 (below_it _ (not-false _ not_above.0) other))), both xs most.1 not_above.1)

filter-reverse : (p : Row → Bool) (xs : List Row) → filter p (reverse xs) ≡ reverse (filter p xs)
filter-reverse p [] = refl
filter-reverse p (x ∷ xs) = ap (filter p) (reverse-cons x xs) ∙ filter-append p (reverse xs) (x ∷ []) ∙ go (p x) (filter-reverse p xs)
  where
    go : (b : Bool) → filter p (reverse xs) ≡ reverse (filter p xs) → filter p (reverse xs) ++ cond b (x ∷ []) [] ≡ reverse (cond b (x ∷ filter p xs) (filter p xs))
    go true more = ap (λ l. l ++ x ∷ []) more ∙ sym (reverse-cons x (filter p xs))
    go false more = append-none (filter p (reverse xs)) ∙ more
      where
        append-none : (ys : List Row) → ys ++ [] ≡ ys
        append-none [] = refl
        append-none (y ∷ ys) = ap (λ l. y ∷ l) (append-none ys)

-- a seek leaves a list that ends once and has the entries of the key
pub scan_of : (direction : Direction) (key : Row) (entries : List Row) → IsIndex plain entries
    → EndsOnce key (sought plain direction key entries) × (in_direction direction (matching key entries) ≡ matching key (sought plain direction key entries))
scan_of Forward key entries index =
    let up = sorted_index plain entries index in
    let is = from_key-filter plain key entries up in (
      subst (EndsOnce key) (sym is) (ends-up key _ (ascending-filter _ _ entries up) (filtered (λ e. not (below key e)) entries)),
      sym (ap (matching key) is ∙ filter-filter (begins_with key) (λ e. not (below key e)) (λ e. match_not_below _) entries),
    )
scan_of Backward key entries index =
    let up = sorted_index plain entries index in
    let is = up_to_key-filter plain key entries up in (
      subst (λ l. EndsOnce key (reverse l)) (sym is) (ends-down key _ (ascending-filter _ _ entries up) (filtered (λ e. not (above key e)) entries)),
      sym (ap (λ l. matching key (reverse l)) is ∙ filter-reverse (begins_with key) _ ∙ ap reverse (filter-filter (begins_with key) (λ e. not (above key e)) (λ e. match_not_above _) entries)),
    )

pub some-is : {A : Type 0} {x y : A} → Some x ≡ Some y → x ≡ y
some-is {A} {x} e = ap (λ o. unwrap_or o x) e

none : (key : Row) (es : List Row) → AllByRecursion (λ e. begins_with key e ≡ false) es → matching key es ≡ []
none key es all = filter_none _ es all

-- what the next entry of a cursor is to a scan
pub scan_gives : (old new : View) (key entry : Row) (left : List Row) (matches : Bool) → matches ≡ begins_with key entry
    → Advances old new 0 entry true → Scans old key left → Gives new key left entry matches
scan_gives old new key entry left matches tested advances scans =
    let rest : scans.rest ≡ entry ∷ advances.0 = some-is (sym scans.cursor ∙ advances.1) in
    let ends = subst (EndsOnce key) rest scans.ends in
    let is = scans.is ∙ ap (matching key) rest in
    go matches (begins_with key entry) refl tested ends is
  where
    go : (m b : Bool) → begins_with key entry ≡ b → m ≡ b → EndsOnce key (entry ∷ advances.0) → left ≡ cond b (entry ∷ matching key advances.0) (matching key advances.0) → Gives new key left entry m
    go true true here same ends is = (
      matching key advances.0,
      is,
      record {
        rest = advances.0;
        cursor = ap (λ v. v.cursors 0) advances.2;
        ends = ends.1;
        is = refl;
      },
    )
    go false false here same ends is = is ∙ none key advances.0 (all_weaker _ (λ b. begins_with key b ≡ false) (λ b stops. stops here) advances.0 ends.0)
    go true false here same ends is = absurd (true≢false same)
    go false true here same ends is = absurd (true≢false (sym same))

-- a key with more columns is above what is below the key
below_longer : (o : Order) (key more e : Row) → is_lt (prefix_cmp o e key) ≡ true → is_lt (prefix_cmp o e (key ++ more)) ≡ true
below_longer o [] more e is = absurd (true≢false (sym is))
below_longer o (k ∷ key) more [] is = refl
below_longer o (k ∷ key) more (v ∷ e) is = go (by_key (first_key o) v k) is (below_longer (later o) key more e)
  where
    go : (a : Ordering) → is_lt (ordering_then a (prefix_cmp (later o) e key)) ≡ true
        → (is_lt (prefix_cmp (later o) e key) ≡ true → is_lt (prefix_cmp (later o) e (key ++ more)) ≡ true)
        → is_lt (ordering_then a (prefix_cmp (later o) e (key ++ more))) ≡ true
    go Less is deeper = refl
    go Equal is deeper = deeper is
    go Greater is deeper = absurd (true≢false (sym is))

-- the same for a seek to a key with more columns
pub scan_from : (key more : Row) (entries : List Row) → IsIndex plain entries → EndsOnce key (from (key ++ more) entries)
scan_from key more entries index =
    ends-up key _ (ascending-filter _ _ entries (sorted_index plain entries index))
    (all_weaker _ (λ e. not (below key e) ≡ true) (λ e. kept e) (from (key ++ more) entries) (filtered (λ e. not (below (key ++ more) e)) entries))
  where
    kept : (e : Row) → not (below (key ++ more) e) ≡ true → not (below key e) ≡ true
    kept e is = go (below key e) refl
      where
        go : (b : Bool) → below key e ≡ b → not b ≡ true
        go true here = absurd (true≢false (sym (below_longer plain key more e here) ∙ not-false _ is))
        go false here = refl

pub seek_from : (key : Row) (entries : List Row) → IsIndex plain entries → sought plain Forward key entries ≡ from key entries
seek_from key entries index = from_key-filter plain key entries (sorted_index plain entries index)

pub sought_scans : (view : View) (direction : Direction) (key : Row) (entries : List Row) → IsSought view direction key entries
    → Scans view key (in_direction direction (matching key entries))
sought_scans view direction key entries at =
    let scan = scan_of direction key entries at.ordered in
    record { rest = sought plain direction key entries; cursor = at.cursor; ends = scan.0; is = scan.1 }

pub sought_from : (view : View) (key start more : Row) (entries : List Row) → start ≡ key ++ more → IsSought view Forward start entries
    → Scans view key (matching key (from start entries))
sought_from view key start more entries is at =
    record {
      rest = from start entries;
      cursor = at.cursor ∙ ap Some (seek_from start entries at.ordered);
      ends = subst (λ s. EndsOnce key (from s entries)) (sym is) (scan_from key more entries at.ordered);
      is = refl;
    }

pub first_sought : (old new : View) (key row : Row) (entries : List Row) (found : Bool) → IsSought old Forward key entries → Advances old new 0 row found
    → slice_get (from key entries) 0 ≡ (if found then Some row else None)
first_sought old new key row entries true at advances =
    ap (λ l. slice_get l 0) (sym (seek_from key entries at.ordered) ∙ some-is (sym at.cursor ∙ advances.1))
first_sought old new key row entries false at advances =
    ap (λ l. slice_get l 0) (sym (seek_from key entries at.ordered) ∙ some-is (sym at.cursor ∙ advances.0))
