-- Finite maps: what is found in them, and which of two has more.
use Rattle.std.proofs.Common.{◌≡◌, ◌≤◌, ◌<◌, ◌-◌, ℕ, zero, suc, Bool, true, false, cond, T, List, [], ◌∷◌, length, take, Option, Some, None, refl, sym, ap, subst, ◌∙◌, arith, is_some}
use Rattle.std.specs.Prelude.{◌&&◌}
use Rattle.std.specs.List.{AllByRecursion}
use Rattle.std.specs.declared.cmp.Ordering.{Ordering}
use Rattle.std.specs.declared.cmp.Ordering.TheVariants.{Less, Equal, Greater}
use Rattle.std.specs.Ordering.{eq_by_cmp, is_eq, is_lt}
use Rattle.std.specs.Cmp.Lexicographic.{nat_list_cmp_total}
use Rattle.std.specs.FinMap.{FinMap, empty, get, insert, remove, len, entries, entries_sorted, find, is_sorted, empty_of_len, get-empty, get-entries, get-insert, get-remove, len-entries, len-remove}
use Rattle.std.specs.FinMap.Entries.{below_all}
use Rattle.std.proofs.lemmas.List.{take_all}
use Rattle.std.proofs.lemmas.Option.{none-some, same_Some}
use Rattle.muni_keep.specs.Trades.{by_bytes, past}
use Rattle.muni_keep.proofs.EntriesLemmas.{found_one, past-all, past-found}
use Rattle.muni_book.proofs.PutLemmas.{itself, same-name}

-- ---- what is found
abbrev pub IsFound : {X : Type 0} → FinMap by_bytes X → List ℕ × X → Type 0
IsFound m entry = get m entry.0 ≡ Some entry.1

pub get-put : {X : Type 0} (m : FinMap by_bytes X) (key : List ℕ) (x : X) → get (insert m key x) key ≡ Some x
get-put m key x = get-insert nat_list_cmp_total m key x key ∙ ap (λ b. cond b (Some x) (get m key)) (itself key)

-- each entry is found by its key
pub entries-found : {X : Type 0} (m : FinMap by_bytes X) → AllByRecursion (IsFound m) (entries m)
entries-found m =
    let all : take (length (entries m)) (past None m) ≡ entries m =
    ap (take (length (entries m))) (past-all m) ∙ take_all (length (entries m)) (entries m) (omega arith) in
    subst (AllByRecursion (IsFound m)) all (past-found None m (length (entries m)))

found-in : {X : Type 0} (P : List ℕ × X → Type 0) (es : List (List ℕ × X)) (key : List ℕ) (x : X) → AllByRecursion P es → find by_bytes key es ≡ Some x → P (key, x)
found-in P [] key x all is = absurd (none-some x is)
found-in {X} P (e ∷ es) key x all is =
    elim (eq_by_cmp by_bytes key e.0) as (λ b. eq_by_cmp by_bytes key e.0 ≡ b → cond b (Some e.1) (find by_bytes key es) ≡ Some x → P (key, x)) [
      | true ↦ λ same here.
          let keys : e.0 ≡ key = sym (same-name key e.0 same) in
          let values : e.1 ≡ x = same_Some e.1 x here in
          let pair : ◌≡◌ {A = List ℕ × X} e (key, x) = λ i. (keys i, values i) in
          subst P pair all.0
      | false ↦ λ other there. found-in P es key x all.1 there
    ] refl is

-- what holds of all entries holds of one that is found
pub at-key : {X : Type 0} (P : List ℕ × X → Type 0) (m : FinMap by_bytes X) (key : List ℕ) (x : X) → AllByRecursion P (entries m) → get m key ≡ Some x → P (key, x)
at-key P m key x all is = found-in P (entries m) key x all (sym (get-entries m key) ∙ is)

-- ---- of two maps, one of which has all keys of the other
first : (a b : Bool) → T (a && b) → T a
first true b p = tt
first false b p = p

second : (a b : Bool) → T (a && b) → T b
second true b p = p
second false b p = absurd p

less : (o : Ordering) → T (is_lt o) → o ≡ Less
less Less p = refl
less Equal p = absurd p
less Greater p = absurd p

none-below : {X : Type 0} (key : List ℕ) (es : List (List ℕ × X)) → T (below_all by_bytes key es) → find by_bytes key es ≡ None
none-below key [] below = refl
none-below key (e ∷ es) below =
    ap (λ o. cond (is_eq o) (Some e.1) (find by_bytes key es)) (less _ (first _ _ below)) ∙ none-below key es (second _ _ below)

some-one : (n : ℕ) → (n ≡ 0 → ⊥) → 1 ≤ n
some-one zero none = absurd (none refl)
some-one (suc n) none = omega arith

not-empty : {X : Type 0} (m : FinMap by_bytes X) (key : List ℕ) (x : X) → get m key ≡ Some x → 1 ≤ len m
not-empty {X} m key x is =
    some-one (len m) (λ none.
    let same : get m key ≡ get (empty {X = X} {R = by_bytes}) key = ap (λ m. get m key) (empty_of_len m none) in
    none-some x (sym (get-empty by_bytes key) ∙ sym same ∙ is))

-- the other has the key too
abbrev Has : {X : Type 0} → FinMap by_bytes X → List ℕ → Type 0
Has {X} m key = (x : X) × (get m key ≡ Some x)

-- it has a key still after another is removed
has-beside : {X Y : Type 0} (n : FinMap by_bytes Y) (key q : List ℕ) (look : List ℕ → Option X) (x : X) → look key ≡ None → look q ≡ Some x → Has n q → Has (remove n key) q
has-beside n key q look x none is has =
    elim (eq_by_cmp by_bytes q key) as (λ b. eq_by_cmp by_bytes q key ≡ b → Has (remove n key) q) [
      | true ↦ λ same. absurd (none-some x (sym none ∙ ap look (sym (same-name q key same)) ∙ is))
      | false ↦ λ other. (has.0, get-remove nat_list_cmp_total n key q ∙ ap (λ b. cond b None (get n q)) other ∙ has.1)
    ] refl

one-less : {X : Type 0} (n : FinMap by_bytes X) (key : List ℕ) → Has n key → len (remove n key) < len n
one-less n key has =
    let there : is_some (get n key) ≡ true = ap is_some has.1 in
    let left : len (remove n key) ≡ len n - 1 = len-remove nat_list_cmp_total n key ∙ ap (λ b. cond b (len n - 1) (len n)) there in
    let some : 1 ≤ len n = not-empty n key has.0 has.1 in
    omega arith

either-some : {X : Type 0} (b : Bool) (v x : X) (o : Option X) → o ≡ Some x → (y : X) × (cond b (Some v) o ≡ Some y)
either-some true v x o is = (v, refl)
either-some false v x o is = (x, is)

no-more : {X Y : Type 0} (es : List (List ℕ × X)) (n : FinMap by_bytes Y) → T (is_sorted by_bytes es) → ((q : List ℕ) (x : X) → find by_bytes q es ≡ Some x → Has n q) → length es ≤ len n
no-more [] n sorted has = omega arith
no-more (e ∷ es) n sorted has =
    let below = first (below_all by_bytes e.0 es) (is_sorted by_bytes es) sorted in
    let after = second (below_all by_bytes e.0 es) (is_sorted by_bytes es) sorted in
    let rest : length es ≤ len (remove n e.0) = no-more es (remove n e.0) after (λ q x is.
    let more = either-some (eq_by_cmp by_bytes q e.0) e.1 x (find by_bytes q es) is in
    has-beside n e.0 q (λ k. find by_bytes k es) x (none-below e.0 es below) is (has q more.0 more.1)) in
    let one : len (remove n e.0) < len n = one-less n e.0 (has e.0 e.1 (found_one [] e es sorted)) in
    omega arith

-- the one has fewer entries if a key of the other is missing
pub fewer : {X Y : Type 0} (m : FinMap by_bytes X) (n : FinMap by_bytes Y) (key : List ℕ) (y : Y) → ((q : List ℕ) (x : X) → get m q ≡ Some x → (z : Y) × (get n q ≡ Some z)) → get m key ≡ None → get n key ≡ Some y → len m < len n
fewer m n key y has none there =
    let rest : length (entries m) ≤ len (remove n key) = no-more (entries m) (remove n key) (entries_sorted m) (λ q x is.
    let found = get-entries m q ∙ is in
    has-beside n key q (get m) x none found (has q x found)) in
    let one : len (remove n key) < len n = one-less n key (y, there) in
    let all : len m ≡ length (entries m) = len-entries m in
    omega arith
