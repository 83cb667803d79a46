-- The entries of a map after a key.
use Rattle.std.proofs.Common.{◌≡◌, ℕ, Bool, true, false, cond, List, [], ◌∷◌, ◌++◌, take, drop, Option, Some, None, refl, sym, ap, subst, ◌∙◌, append_assoc}
use Rattle.std.specs.Prelude.{T, ◌&&◌}
use Rattle.std.specs.List.{filter, AllByRecursion}
use Rattle.std.specs.declared.cmp.Ordering.{Ordering}
use Rattle.std.specs.declared.cmp.Ordering.TheVariants.{Less, Equal, Greater}
use Rattle.std.specs.Ordering.{is_lt, is_eq, ordering_reverse}
use Rattle.std.specs.Cmp.{tied_itself}
use Rattle.std.specs.Cmp.Lexicographic.{nat_list_cmp_total}
use Rattle.std.specs.FinMap.{FinMap, entries, is_sorted, entries_sorted, find, get, get-entries}
use Rattle.std.specs.FinMap.Entries.{below_all}
use Rattle.std.proofs.lemmas.List.{take-append-drop}
use Rattle.muni_keep.specs.Trades.{by_bytes, is_past, past}

-- all entries are past no key
pub all_pass : {A : Type 0} (xs : List A) → filter (λ _. true) xs ≡ xs
all_pass [] = refl
all_pass (x ∷ xs) = ap (λ l. x ∷ l) (all_pass xs)

pub past-all : {X : Type 0} (m : FinMap by_bytes X) → past None m ≡ entries m
past-all m = all_pass (entries m)

first : (a b : Bool) → T (a && b) → T a
first true b p = tt
first false b p = p

second : (a b : Bool) → T (a && b) → T b
second true b p = p
second false b p = absurd p

both : (a b : Bool) → T a → T b → T (a && b)
both true b p q = q
both false b p q = p

less : (o : Ordering) → T (is_lt o) → o ≡ Less
less Less p = refl
less Equal p = absurd p
less Greater p = absurd p

true_is : (b : Bool) → T b → b ≡ true
true_is true t = refl
true_is false t = absurd t

past_first : {X : Type 0} (key : List ℕ) (es : List (List ℕ × X)) → T (below_all by_bytes key es) → filter (λ e. is_past (Some key) e.0) es ≡ es
past_first key [] t = refl
past_first key (e ∷ es) t =
    ap (λ b. cond b (e ∷ filter (λ e. is_past (Some key) e.0) es) (filter (λ e. is_past (Some key) e.0) es)) (true_is _ (first _ _ t))
    ∙ ap (λ l. e ∷ l) (past_first key es (second _ _ t))

below_one : {X : Type 0} (key : List ℕ) (front : List (List ℕ × X)) (e : List ℕ × X) (back : List (List ℕ × X)) → T (below_all by_bytes key (front ++ e ∷ back)) → T (is_lt (by_bytes key e.0))
below_one key [] e back t = first _ _ t
below_one key (x ∷ front) e back t = below_one key front e back (second _ _ t)

over_one : {X : Type 0} (x e : List ℕ × X) (front back : List (List ℕ × X)) → T (is_sorted by_bytes (x ∷ front ++ e ∷ back)) → by_bytes e.0 x.0 ≡ Greater
over_one x e front back t =
    nat_list_cmp_total.antisymm e.0 x.0 ∙ ap ordering_reverse (less _ (below_one x.0 front e back (first _ _ t)))

-- of entries in order, those after one are those past its key
pub past_one : {X : Type 0} (front : List (List ℕ × X)) (e : List ℕ × X) (back : List (List ℕ × X)) → T (is_sorted by_bytes (front ++ e ∷ back))
    → filter (λ other. is_past (Some e.0) other.0) (front ++ e ∷ back) ≡ back
past_one [] e back t =
    ap (λ o. cond (is_lt o) (e ∷ filter (λ other. is_past (Some e.0) other.0) back) (filter (λ other. is_past (Some e.0) other.0) back)) (tied_itself nat_list_cmp_total e.0)
    ∙ past_first e.0 back (first _ _ t)
past_one (x ∷ front) e back t =
    let rest = filter (λ other. is_past (Some e.0) other.0) (front ++ e ∷ back) in
    ap (λ o. cond (is_lt o) (x ∷ rest) rest) (over_one x e front back t) ∙ past_one front e back (second _ _ t)

-- and the one is found by its key
pub found_one : {X : Type 0} (front : List (List ℕ × X)) (e : List ℕ × X) (back : List (List ℕ × X)) → T (is_sorted by_bytes (front ++ e ∷ back))
    → find by_bytes e.0 (front ++ e ∷ back) ≡ Some e.1
found_one [] e back t = ap (λ o. cond (is_eq o) (Some e.1) (find by_bytes e.0 back)) (tied_itself nat_list_cmp_total e.0)
found_one (x ∷ front) e back t =
    ap (λ o. cond (is_eq o) (Some x.1) (find by_bytes e.0 (front ++ e ∷ back))) (over_one x e front back t)
    ∙ found_one front e back (second _ _ t)

lower : {X : Type 0} (x y : List ℕ) (es : List (List ℕ × X)) → by_bytes x y ≡ Less → T (below_all by_bytes y es) → T (below_all by_bytes x es)
lower x y [] is t = tt
lower x y (e ∷ es) is t =
    both _ _ (subst (λ o. T (is_lt o)) (sym (nat_list_cmp_total.trans x y e.0 is (less _ (first _ _ t)))) tt) (lower x y es is (second _ _ t))

-- of entries in order, those past a key are the last ones
past_back : {X : Type 0} (key : List ℕ) (es : List (List ℕ × X)) → T (is_sorted by_bytes es)
    → (front : List (List ℕ × X)) × (front ++ filter (λ e. is_past (Some key) e.0) es ≡ es)
past_back key [] t = ([], refl)
past_back {X} key (e ∷ es) t =
    let rest = filter (λ e. is_past (Some key) e.0) es in
    elim (is_lt (by_bytes key e.0)) as (λ b. is_lt (by_bytes key e.0) ≡ b → (front : List (List ℕ × X)) × (front ++ cond b (e ∷ rest) rest ≡ e ∷ es)) [
      | true ↦ λ is. ([], ap (λ l. e ∷ l) (past_first key es (lower key e.0 es (less _ (subst T (sym is) tt)) (first _ _ t))))
      | false ↦ λ is. let back = past_back key es (second _ _ t) in (e ∷ back.0, ap (λ l. e ∷ l) back.1)
    ] refl

pub past-back : {X : Type 0} (after : Option (List ℕ)) (m : FinMap by_bytes X) → (front : List (List ℕ × X)) × (front ++ past after m ≡ entries m)
past-back None m = ([], past-all m)
past-back (Some key) m = past_back key (entries m) (entries_sorted m)

-- after some of those past a key and one more come those past that one
pub past-next : {X : Type 0} (after : Option (List ℕ)) (m : FinMap by_bytes X) (some : List (List ℕ × X)) (e : List ℕ × X) (back : List (List ℕ × X))
    → past after m ≡ some ++ e ∷ back → past (Some e.0) m ≡ back
past-next after m some e back is =
    let all = past-back after m in
    let cut : entries m ≡ (all.0 ++ some) ++ e ∷ back = sym all.1 ∙ ap (λ l. all.0 ++ l) is ∙ sym (append_assoc all.0 some (e ∷ back)) in
    ap (filter (λ other. is_past (Some e.0) other.0)) cut
    ∙ past_one (all.0 ++ some) e back (subst (λ l. T (is_sorted by_bytes l)) cut (entries_sorted m))

all_found : {X : Type 0} (m : FinMap by_bytes X) (front some back : List (List ℕ × X)) → front ++ (some ++ back) ≡ entries m → AllByRecursion (λ e. get m e.0 ≡ Some e.1) some
all_found m front [] back is = tt
all_found m front (e ∷ some) back is = (
  get-entries m e.0 ∙ ap (find by_bytes e.0) (sym is) ∙ found_one front e (some ++ back) (subst (λ l. T (is_sorted by_bytes l)) (sym is) (entries_sorted m)),
  all_found m (front ++ e ∷ []) some back (append_assoc front (e ∷ []) (some ++ back) ∙ is),
)

-- each of the first entries past a key is found by its own
pub past-found : {X : Type 0} (after : Option (List ℕ)) (m : FinMap by_bytes X) (n : ℕ) → AllByRecursion (λ e. get m e.0 ≡ Some e.1) (take n (past after m))
past-found after m n =
    let all = past-back after m in
    all_found m all.0 (take n (past after m)) (drop n (past after m)) (ap (λ l. all.0 ++ l) (take-append-drop n (past after m)) ∙ all.1)
