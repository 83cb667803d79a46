-- Finite maps, as the maps of the entries of ordered maps.
use Rattle.std.proofs.Common.{arith, ◌≡◌, ℕ, length, List, [], ◌∷◌, Option, Some, refl, ap, sym, ◌∙◌, cond, true, false}
use Rattle.std.specs.Map.{lookup, keys_of}
use Rattle.std.specs.List.{AllByRecursion}
use Rattle.std.specs.List.Sorted.{IsStrictlySortedBy}
use Rattle.std.specs.declared.cmp.Ordering.TheVariants.{Less, Equal, Greater}
use Rattle.std.specs.BTreeMap.{is_at}
use Rattle.std.specs.Cmp.{eq_by_cmp_equiv}
use Rattle.std.specs.declared.cmp.Ordering.{Ordering}
use Rattle.std.specs.Ordering.{eq_by_cmp, is_eq}
use Rattle.std.specs.Cmp.Lexicographic.{nat_list_cmp_total}
use Rattle.std.specs.FinMap.{FinMap, get, len, insert, empty, entries, from_entries, find, put, get-from_entries, get-insert, same_map, entries-insert, len-entries, len-empty}
use Rattle.std.specs.FinMap.Entries.{by_order}
use Rattle.std.proofs.lemmas.Map.Keys.{sorted_head, sorted_tail}
use Rattle.std.proofs.lemmas.Map.Lookups.{exact_bytes}
use Rattle.muni_keep.specs.Trades.{by_bytes}

find-lookup : {X : Type 0} (es : List (List ℕ × X)) (key : List ℕ) → find by_bytes key es ≡ lookup (is_at (by_bytes key)) es
find-lookup [] key = refl
find-lookup (e ∷ es) key = ap (cond (is_at (by_bytes key) e.0) (Some e.1)) (find-lookup es key)

get-lookup : {X : Type 0} (es : List (List ℕ × X)) (key : List ℕ) → get (from_entries {R = by_bytes} es) key ≡ lookup (is_at (by_bytes key)) es
get-lookup es key = get-from_entries nat_list_cmp_total es key ∙ find-lookup es key

-- what a look-up among the entries found, the map has
pub get_found : {X : Type 0} (es : List (List ℕ × X)) (m : FinMap by_bytes X) (key : List ℕ) (found : Option X) → from_entries es ≡ m → found ≡ lookup (is_at (by_bytes key)) es → get m key ≡ found
get_found es m key found is at_key = ap (λ m. get m key) (sym is) ∙ get-lookup es key ∙ sym at_key

-- entries that differ at one key make maps that differ there
pub insert_one : {X : Type 0} (es fs : List (List ℕ × X)) (m : FinMap by_bytes X) (key : List ℕ) (x : X) → from_entries es ≡ m
    → ((other : List ℕ) → lookup (is_at (by_bytes other)) fs ≡ cond (is_at (by_bytes key) other) (Some x) (lookup (is_at (by_bytes other)) es))
    → from_entries fs ≡ insert m key x
insert_one es fs m key x is one =
    same_map nat_list_cmp_total exact_bytes _ _ (λ other.
    get-lookup fs other ∙ one other
    ∙ ap (λ b. cond b (Some x) (lookup (is_at (by_bytes other)) es)) ((eq_by_cmp_equiv nat_list_cmp_total).symm key other)
    ∙ sym (get-insert nat_list_cmp_total (from_entries es) key x other ∙ ap (cond (is_at (by_bytes other) key) (Some x)) (get-lookup es other)))
    ∙ ap (λ m. insert m key x) is

equal_if : (o : Ordering) → is_eq o ≡ true → o ≡ Equal
equal_if Less same = cc same
equal_if Equal same = refl
equal_if Greater same = cc same

-- what a map had at a key, put back there, gives the map
pub insert_back : {X : Type 0} (m : FinMap by_bytes X) (key : List ℕ) (x had : X) → get m key ≡ Some had → insert (insert m key x) key had ≡ m
insert_back m key x had is =
    same_map nat_list_cmp_total exact_bytes _ _ (λ other.
    get-insert nat_list_cmp_total (insert m key x) key had other
    ∙ elim (eq_by_cmp by_bytes other key) as (λ b. eq_by_cmp by_bytes other key ≡ b → cond b (Some had) (get (insert m key x) other) ≡ get m other) [
      | true ↦ λ same. sym is ∙ ap (get m) (sym (exact_bytes other key (equal_if _ same)))
      | false ↦ λ apart. get-insert nat_list_cmp_total m key x other ∙ ap (λ b. cond b (Some x) (get m other)) apart
    ] refl)

none_left : {A : Type 0} (xs : List A) → length xs ≡ 0 → xs ≡ []
none_left [] none = refl
none_left (x ∷ xs) none = absurd (omega arith)

pub entries-empty : {X : Type 0} → entries (empty {X = X} {R = by_bytes}) ≡ []
entries-empty {X} = none_left _ (sym (len-entries (empty {X = X} {R = by_bytes})) ∙ len-empty by_bytes X)

put_first : {X : Type 0} (key : List ℕ) (x : X) (es : List (List ℕ × X)) → AllByRecursion (λ other. by_bytes key other ≡ Less) (keys_of es) → put by_bytes key x es ≡ (key, x) ∷ es
put_first key x [] first = refl
put_first key x (e ∷ es) first = ap (λ o. by_order o ((key, x) ∷ e ∷ es) ((e.0, x) ∷ es) (e ∷ put by_bytes key x es)) first.0

entries-from_entries : {X : Type 0} (es : List (List ℕ × X)) → IsStrictlySortedBy by_bytes (keys_of es) → entries (from_entries {R = by_bytes} es) ≡ es
entries-from_entries [] sorted = entries-empty
entries-from_entries (e ∷ es) sorted =
    entries-insert nat_list_cmp_total (from_entries es) e.0 e.1
    ∙ ap (put by_bytes e.0 e.1) (entries-from_entries es (sorted_tail by_bytes e.0 (keys_of es) sorted))
    ∙ put_first e.0 e.1 es (sorted_head by_bytes e.0 (keys_of es) sorted)

-- the map of entries in order has these entries
pub entries_are : {X : Type 0} (es : List (List ℕ × X)) (m : FinMap by_bytes X) → from_entries es ≡ m → IsStrictlySortedBy by_bytes (keys_of es) → entries m ≡ es
entries_are es m is sorted = ap entries (sym is) ∙ entries-from_entries es sorted

-- and as many
pub len_is : {X : Type 0} (es : List (List ℕ × X)) (m : FinMap by_bytes X) → from_entries es ≡ m → IsStrictlySortedBy by_bytes (keys_of es) → len m ≡ length es
len_is es m is sorted = len-entries m ∙ ap length (entries_are es m is sorted)
